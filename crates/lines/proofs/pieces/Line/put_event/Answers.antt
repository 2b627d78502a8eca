-- `lines::pieces::Line::put_event` meets its contract, kind by kind.
-- Assumes nothing.
use Rattle.std.specs.Prelude.{Ok, Err}
use Rattle.model.specs.declared.Kind.TheVariants.{Read, Write, Stabilize, Failed, Up, Down}
use Rattle.lines.proofs.Events.{event_by}
use Rattle.lines.proofs.pieces.Line.put_event.Goals as goal

pub returns-in-Ok-Read : goal.returns-in-Ok-Read
returns-in-Ok-Read c = event_by _ _ (Ok Read) (rw c.in-Ok-Read.field-0-is at c.in-Ok-Read.ensures) c.put_at.ensures

pub returns-in-Ok-Write : goal.returns-in-Ok-Write
returns-in-Ok-Write c = event_by _ _ (Ok Write) (rw c.in-Ok-Write.field-0-is at c.in-Ok-Write.ensures) c.put_at-in-Ok-Write.ensures

pub returns-in-Ok-Stabilize : goal.returns-in-Ok-Stabilize
returns-in-Ok-Stabilize c = event_by _ _ (Ok Stabilize) (rw c.in-Ok-Stabilize.field-0-is at c.in-Ok-Stabilize.ensures) c.put.ensures

pub returns-in-Ok-Failed : goal.returns-in-Ok-Failed
returns-in-Ok-Failed c = event_by _ _ (Ok Failed) (rw c.in-Ok-Failed.field-0-is at c.in-Ok-Failed.ensures) c.put-in-Ok-Failed.ensures

pub returns-in-Ok-Up : goal.returns-in-Ok-Up
returns-in-Ok-Up c = event_by _ _ (Ok Up) (rw c.in-Ok-Up.field-0-is at c.in-Ok-Up.ensures) c.put_at-in-Ok-Up.ensures

pub returns-in-Ok-Down : goal.returns-in-Ok-Down
returns-in-Ok-Down c = event_by _ _ (Ok Down) (rw c.in-Ok-Down.field-0-is at c.in-Ok-Down.ensures) c.put_at-in-Ok-Down.ensures

pub returns-in-Err : goal.returns-in-Err
returns-in-Err c = event_by _ _ (Err _) c.in-Err.ensures c.put_at-in-Err.ensures
