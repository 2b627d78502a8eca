-- `lines::notation::record_line` meets its contract: the whole line, or nothing in too little room.
-- Assumes nothing.
use borrow.Author.Rules.{rules}
use native.Mathlib.Omega.{arith}
use Rattle.lines.specs.Notation.{record_text}
use Rattle.lines.proofs.Values.{record_few}
use Rattle.lines.proofs.Lines.{made_line}
use Rattle.lines.proofs.notation.record_line.Goals as goal

pub returns : goal.returns
returns c =
    let both = made_line {text = record_text c.args.given} c.make_line.ensures (λ l m p. search rules) (record_few c.args.given (omega arith)) in
    record { result = both.0; out = both.1 }
