-- What is asked of all counts and all bytes is what is asked of those left.
-- Assumes nothing.
use mathlib.Core.Path.{◌≡◌}
use lib.ListN.{drop}
use Rattle.writer.proofs.Counts.{wrong}
use Rattle.writer.proofs.miscounted.Given as goal

abbrev pub invariant-loop-count : goal.invariant-loop-count
invariant-loop-count l = wrong l.counts l.bytes ≡ wrong (drop l.count-index l.counts) l.left
