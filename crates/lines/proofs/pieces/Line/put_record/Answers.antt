-- `lines::pieces::Line::put_record` meets its contract, kind by kind.
-- Assumes nothing.
use borrow.Author.Rules.{rules}
use Rattle.std.specs.Prelude.{Ok}
use Rattle.model.specs.declared.Kind.TheVariants.{Read, Write, Stabilize}
use Rattle.lines.specs.Words.{words}
use Rattle.lines.proofs.Lines.{after_number}
use Rattle.lines.proofs.Records.{record_by, other_by}
use Rattle.lines.proofs.pieces.Line.put_record.Goals as goal

pub returns-in-Ok-Read : goal.returns-in-Ok-Read
returns-in-Ok-Read c = record_by c.args.given (Ok Read) (rw c.in-Ok-Read.field-0-is at c.in-Ok-Read.ensures)
    (after_number (words "R") c.args.given.tablet (rw c.from.ensures at c.put_number.ensures) (rw c.from-in-Ok-Read.ensures at c.put_last.ensures))

pub returns-in-Ok-Write : goal.returns-in-Ok-Write
returns-in-Ok-Write c = record_by c.args.given (Ok Write) (rw c.in-Ok-Write.field-0-is at c.in-Ok-Write.ensures)
    (after_number (words "W") c.args.given.tablet (rw c.from-in-Ok-Write.ensures at c.put_number-in-Ok-Write.ensures)
    (after_number (words " ") c.args.given.new (rw c.from-in-Ok-Write-2.ensures at c.put_number-in-Ok-Write-2.ensures)
    (rw c.from-in-Ok-Write-3.ensures at c.put_last-in-Ok-Write.ensures)))

pub returns-in-Ok-Stabilize : goal.returns-in-Ok-Stabilize
returns-in-Ok-Stabilize c = record_by c.args.given (Ok Stabilize) (rw c.in-Ok-Stabilize.field-0-is at c.in-Ok-Stabilize.ensures) c.put_found.ensures

pub returns-in_default : goal.returns-in_default
returns-in_default c = other_by c.args.given _ c.try_from.ensures (λ e. search rules) (λ e. search rules) (λ e. search rules) c.put.ensures
