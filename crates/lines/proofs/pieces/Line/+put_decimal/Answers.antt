-- `put_decimal`
use native.Mathlib.Omega.{arith}
use Rattle.lines.proofs.Lines.{then_puts}
use Rattle.lines.proofs.Decimal.{decimal_one, decimal_more}
use Rattle.lines.proofs.pieces.Line.+put_decimal.Goals as goal
use Rattle.lines.proofs.pieces.Line.+put_decimal.Goals.{then-number-ge10, else-number-ge10}

pub returns : goal.returns
returns t c = elim c.if-number-ge10.branch [
  | then-number-ge10 w ↦ rw (decimal_more _ w.if-number-ge10.true (omega arith)) (then_puts (rw (← w.self-is) at w.put_decimal.ensures) c.put_byte.ensures)
  | else-number-ge10 w ↦ rw (decimal_one _ w.if-number-ge10.false) (rw w.self-is at c.put_byte.ensures)
]
