-- `marks::has` meets its contract: below the width the test is the definition's, and past it there is no bit. Assumes nothing.
use Rattle.std.proofs.Common.{sym, ap, ◌∙◌, arith}
use borrow.Author.Tests.{le-ltb}
use Rattle.marks.specs.Sets.{has}
use Rattle.marks.proofs.Laws.{has_past}
use Rattle.marks.proofs.has.Goals as goal

pub returns-then-i-WIDTH : goal.returns-then-i-WIDTH
unfolding has
returns-then-i-WIDTH g c = rw c.wide-wide.ensures.number

pub returns-else-i-WIDTH : goal.returns-else-i-WIDTH
returns-else-i-WIDTH g c =
    let w = c.wide-wide.ensures in
    le-ltb _ _ c.if-i-WIDTH.false ∙ sym (ap (λ s. has s c.args.i) (sym w.number) ∙ has_past _ _ _ w.bound (omega (arith, c.WIDTH.ensures)))
