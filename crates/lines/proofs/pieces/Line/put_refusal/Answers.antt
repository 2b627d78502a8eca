-- `lines::pieces::Line::put_refusal` meets its contract: the number, and then the place.
-- Assumes nothing.
use Rattle.lines.specs.Words.{words}
use Rattle.lines.specs.Text.{refusal_text}
use Rattle.lines.proofs.Lines.{after_number}
use Rattle.lines.proofs.pieces.Line.put_refusal.Goals as goal

pub returns : goal.returns
unfolding refusal_text
returns c = after_number (words "refused ") c.args.by.number c.put_number.ensures c.put_last.ensures
