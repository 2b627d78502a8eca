-- `lines::refusal_line` meets its contract: the whole line, or nothing in too little room.
-- Assumes nothing.
use borrow.Author.Rules.{rules}
use Rattle.tracefile.specs.Refusals.{refusal as refusal_of}
use Rattle.lines.specs.Text.{refused_text}
use Rattle.lines.proofs.Said.{refused_short}
use Rattle.lines.proofs.Lines.{made_line}
use Rattle.lines.proofs.refusal_line.Goals as goal

pub returns : goal.returns
unfolding refused_text
returns c =
    let both = made_line {text = refused_text (refusal_of c.args.refusal)} c.make_line.ensures (λ l m p. search rules) (refused_short _) in
    record { result = both.0; out = both.1 }
