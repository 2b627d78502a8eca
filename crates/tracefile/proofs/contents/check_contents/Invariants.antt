-- The contents are what the entries that are left say, with the expected offset.
-- Assumes nothing.
use mathlib.Core.Path.{◌≡◌}
use Prim.Native.Nat.{◌+◌, ◌-◌, ◌*◌, ◌≤◌}
use Rattle.tracefile.specs.File.{entries, contents}
use Rattle.tracefile.proofs.contents.check_contents.Given as goal

abbrev pub invariant-loop-i : goal.invariant-loop-i
invariant-loop-i l = record { left : contents l.file ≡ entries l.file (l.bodies - l.i) l.i l.at; small : l.at ≤ 1024 + 3072 * l.i }
