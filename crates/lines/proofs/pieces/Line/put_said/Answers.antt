-- `lines::pieces::Line::put_said` meets its contract, case by case.
-- Assumes nothing.
use borrow.Author.Rules.{rules}
use mathlib.Core.Path.{◌≡◌}
use Rattle.std.specs.Prelude.{Ok}
use Rattle.verdict.specs.declared.Verdict.TheVariants.{Explained, Unexplained, Undecided}
use Rattle.lines.specs.Words.{words}
use Rattle.lines.specs.Text.{said_text}
use Rattle.lines.proofs.Lines.{after_number}
use Rattle.lines.proofs.pieces.Line.put_said.Goals as goal

pub returns-in-Ok-Explained : goal.returns-in-Ok-Explained
unfolding said_text
returns-in-Ok-Explained c =
    let said : c.args.said ≡ Ok (Explained c.in-Ok-Explained.points c.in-Ok-Explained.events) = search rules in
    rw said (after_number (words "explained points ") c.in-Ok-Explained.points c.put_number.ensures c.put_last.ensures)

pub returns-in-Ok-Unexplained : goal.returns-in-Ok-Unexplained
unfolding said_text
returns-in-Ok-Unexplained c =
    let said : c.args.said ≡ Ok (Unexplained c.in-Ok-Unexplained.points) = search rules in rw said c.put_last-in-Ok-Unexplained.ensures

pub returns-in-Ok-Undecided : goal.returns-in-Ok-Undecided
unfolding said_text
returns-in-Ok-Undecided c =
    let said : c.args.said ≡ Ok (Undecided c.in-Ok-Undecided.points) = search rules in rw said c.put_last-in-Ok-Undecided.ensures

pub returns-in-Err : goal.returns-in-Err
unfolding said_text
returns-in-Err c = rw (c.in-Err.is, ← c.from.ensures) c.put_refusal.ensures
