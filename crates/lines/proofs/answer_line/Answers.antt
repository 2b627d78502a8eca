-- `lines::answer_line` meets its contract: the whole line, or nothing in too little room.
-- Assumes nothing.
use borrow.Author.Rules.{rules}
use Rattle.verdict.specs.Judged.{told}
use Rattle.lines.specs.Text.{answer_text}
use Rattle.lines.proofs.Said.{answer_short}
use Rattle.lines.proofs.Lines.{made_line}
use Rattle.lines.proofs.answer_line.Goals as goal

pub returns : goal.returns
returns c =
    let both = made_line {text = answer_text c.args.trace (told c.args.said)} c.make_line.ensures (λ l m p. search rules) (answer_short c.args.trace _) in
    record { result = both.0; out = both.1 }
