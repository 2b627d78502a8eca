-- Whatever puts the events from the next one on completes the line.
-- Assumes nothing.
use lib.ListN.{drop}
use Rattle.lines.specs.Text.{events_text}
use Rattle.lines.proofs.Events.{later_text}
use Rattle.lines.proofs.Lines.{Completes}
use Rattle.lines.proofs.pieces.Line.put_events.Given as goal

abbrev pub invariant-loop-event : goal.invariant-loop-event
invariant-loop-event l = Completes (later_text (drop l.event-index l.later)) (events_text l.fn.events) l.fn.self l.self
