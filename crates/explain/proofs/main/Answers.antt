-- `explain::main` is safe: what it prints lies within the text.
-- Assumes nothing.
use mathlib.Core.Path.{sym}
use lib.Seq.{length-take-le}
use Rattle.lines.proofs.Putting.{within}
use Rattle.explain.proofs.main.Goals as goal

pub slice_bounds-text-end : goal.slice_bounds-text-end
slice_bounds-text-end c = within _ _ _ _ _ (c.report-size.ensures.result, c.report-size.ensures.out)

pub slice_bounds-write_all-end : goal.slice_bounds-write_all-end
slice_bounds-write_all-end c = sym (length-take-le _ _ (within _ _ _ _ _ (c.report-size.ensures.result, c.report-size.ensures.out)))
