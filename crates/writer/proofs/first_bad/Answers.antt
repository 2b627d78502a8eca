-- `writer::first_bad` meets its contract: the first record that breaks its row decides, and where none is left nothing is
-- refused.
-- Assumes nothing.
use native.Mathlib.Omega.{arith}
use Rattle.writer.proofs.Rows.{rows_steps}
use Rattle.writer.proofs.first_bad.Goals as goal

pub returns : goal.returns
returns c = λ good. grind (arith, rows_steps, c.loop-i.invariant good)
