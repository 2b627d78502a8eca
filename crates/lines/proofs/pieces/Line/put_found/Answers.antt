-- `lines::pieces::Line::put_found` meets its contract: its pieces are put one after the other.
-- Assumes nothing.
use Rattle.lines.specs.Words.{words}
use Rattle.lines.specs.Notation.{found_text}
use Rattle.lines.proofs.Lines.{then_puts, after_number}
use Rattle.lines.proofs.pieces.Line.put_found.Goals as goal

pub returns : goal.returns
unfolding found_text
returns c = rw (← c.from.ensures) (after_number (words "S(") c.from.result c.put_number.ensures (then_puts c.put.ensures (then_puts c.put_values.ensures c.put-2.ensures)))
