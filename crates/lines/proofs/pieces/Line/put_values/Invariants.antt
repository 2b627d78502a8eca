-- Whatever puts the values from the next one on completes the set.
-- Assumes nothing.
use Prim.Native.Nat.{◌-◌}
use Rattle.lines.specs.Notation.{later_values, values_text}
use Rattle.lines.proofs.Lines.{Completes}
use Rattle.lines.proofs.pieces.Line.put_values.Given as goal

abbrev pub invariant-loop-value : goal.invariant-loop-value
invariant-loop-value l = Completes (later_values l.set l.value (64 - l.value)) (values_text l.set) l.fn.self l.self
