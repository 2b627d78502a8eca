-- `marks::add` meets its contract: the bit that stands for i is put in, where there is one. Assumes nothing.
use Rattle.std.proofs.Common.{◌∙◌}
use Rattle.marks.proofs.Laws.{narrow_add}
use Rattle.marks.proofs.add.Goals as goal

pub returns : goal.returns
returns g c =
    let w = c.wide.ensures in
    c.narrow.ensures ∙ rw (c.bit_of.ensures, w.number) (narrow_add _ _ _ (rw w.number at w.bound))
