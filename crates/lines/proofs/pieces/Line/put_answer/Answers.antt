-- `lines::pieces::Line::put_answer` meets its contract: the number, and then what is said.
-- Assumes nothing.
use Rattle.lines.specs.Words.{words}
use Rattle.lines.specs.Text.{answer_text}
use Rattle.lines.proofs.Lines.{then_puts, after_number}
use Rattle.lines.proofs.pieces.Line.put_answer.Goals as goal

pub returns : goal.returns
unfolding answer_text
returns c = after_number (words "trace ") c.args.trace c.put_number.ensures (then_puts c.put.ensures c.put_said.ensures)
