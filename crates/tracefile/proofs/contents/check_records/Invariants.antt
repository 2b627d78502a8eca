-- The records of the file are what the bodies that are left, and the records that are left of one, say.
-- Assumes nothing.
use mathlib.Core.Path.{◌≡◌}
use Prim.Native.Nat.{◌+◌, ◌-◌, ◌*◌, ◌≤◌}
use Rattle.tracefile.specs.File.{records, in_body, in_bodies}
use Rattle.tracefile.proofs.contents.check_records.Given as goal

abbrev pub invariant-loop-record : goal.invariant-loop-record
invariant-loop-record l =
    records l.file ≡ in_body l.file (l.count - l.record) (l.at + 12 * l.record) (λ next. in_bodies l.file (l.bodies - (l.body + 1)) (l.body + 1) next)

abbrev pub invariant-loop-body : goal.invariant-loop-body
invariant-loop-body l = record { left : records l.file ≡ in_bodies l.file (l.bodies - l.body) l.body l.at; small : l.at ≤ 1024 + 786420 * l.body }
