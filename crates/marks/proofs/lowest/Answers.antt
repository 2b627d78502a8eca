-- `marks::lowest` meets its contract: as many digits are 0 below the smallest number, and at most the width.
-- Assumes nothing.
use Rattle.marks.specs.Sets.{lowest}
use Rattle.marks.proofs.Laws.{lowest_within}
use Rattle.marks.proofs.lowest.Goals as goal

pub returns : goal.returns
unfolding lowest
returns g c =
    let m = g.W.Word in
    rw (c.min.ensures, c.WIDTH.ensures, c.wide.ensures.number) (lowest_within m.WIDTH 64 (m.number c.args.set) g.met.W.Word.within)
