-- `lines::trace_line` meets its contract: the whole line, or nothing in too little room.
-- Assumes nothing.
use borrow.Author.Rules.{rules}
use Rattle.lines.specs.Text.{heading_text}
use Rattle.lines.proofs.Said.{heading_short}
use Rattle.lines.proofs.Lines.{made_line}
use Rattle.lines.proofs.trace_line.Goals as goal

pub returns : goal.returns
unfolding heading_text
returns c =
    let both = made_line {text = heading_text c.args.trace} c.make_line.ensures (λ l m p. search rules) (heading_short c.args.trace) in
    record { result = both.0; out = both.1 }
