-- `marks::remove` meets its contract: the bit that stands for i is put in and turned over, where there is one.
-- Assumes nothing.
use Rattle.std.proofs.Common.{◌∙◌}
use Rattle.marks.proofs.Laws.{narrow_remove}
use Rattle.marks.proofs.remove.Goals as goal

pub returns : goal.returns
returns g c =
    let w = c.wide.ensures in
    c.narrow.ensures ∙ rw (c.bit_of-bit.ensures, w.number) (narrow_remove _ _ _ (rw w.number at w.bound))
