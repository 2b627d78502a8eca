-- The answers so far come to the tally so far.
-- Assumes nothing.
use Rattle.cases.specs.Tallied.{Comes}
use Rattle.cases.proofs.run_packed.Given as goal

abbrev pub invariant-loop-case : goal.invariant-loop-case
invariant-loop-case g l =
    (goal.iterator-loop-case g).can_next l.case-iterator
    × (goal.iterator-loop-case g).is_finite l.case-iterator
    × Comes (g.T.Test.says l.test) l.yielded l.tally
