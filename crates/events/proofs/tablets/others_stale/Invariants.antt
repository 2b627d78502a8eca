-- Of the tablets passed only the kept one may be left.
-- Assumes nothing.
use Rattle.events.proofs.Stale.{Staled}
use Rattle.events.proofs.tablets.others_stale.Given as goal

abbrev pub invariant-loop-other : goal.invariant-loop-other
invariant-loop-other l = Staled l.fresh l.keep l.left l.other
