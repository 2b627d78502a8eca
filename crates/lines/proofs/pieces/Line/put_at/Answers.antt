-- `lines::pieces::Line::put_at` meets its contract: the letter, and then the digit.
-- Assumes nothing.
use Rattle.lines.proofs.Lines.{then_puts}
use Rattle.lines.proofs.pieces.Line.put_at.Goals as goal

pub returns : goal.returns
returns c = then_puts c.put_byte.ensures c.put_byte-2.ensures
