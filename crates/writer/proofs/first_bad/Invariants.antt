-- The outcome for all records is the outcome for those left, whatever follows.
-- Assumes nothing.
use mathlib.Core.Path.{◌≡◌}
use Prim.Native.Nat.{◌-◌, ◌*◌}
use Rattle.writer.specs.Written.{Outcome, bad_record}
use Rattle.writer.proofs.first_bad.Given as goal

abbrev pub invariant-loop-i : goal.invariant-loop-i
invariant-loop-i l =
    (good : Outcome)
    → bad_record l.limits.tablets l.limits.values l.records l.all 0 good ≡ bad_record l.limits.tablets l.limits.values l.records (l.all - l.i) (12 * l.i) good
