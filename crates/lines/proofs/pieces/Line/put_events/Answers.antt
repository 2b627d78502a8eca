-- `lines::pieces::Line::put_events` meets its contract: the first event is put, and then each with a space before it.
-- Assumes nothing.
use mathlib.Core.Path.{◌∙◌, sym}
use Rattle.lines.specs.Words.{words}
use Rattle.lines.proofs.Lines.{puts_as, once_put, one_more}
use Rattle.lines.proofs.Events.{some_events, no_events, next_event, none_left}
use Rattle.lines.proofs.pieces.Line.put_events.Goals as goal
use Rattle.lines.proofs.pieces.Line.put_events.Goals.{in-Some+else-loop-event-test, in_default}

pub loop-event-init : goal.loop-event-init
loop-event-init c = rw (← some_events c.args.events.now _ _ (sym c.as_chunks.ensures.front ∙ c.in-Some.ensures.cases.0)) (once_put _ _ c.put_event.ensures)

pub loop-event-preserved : goal.loop-event-preserved
loop-event-preserved c =
    one_more _ _ (one_more (words " ") _ (rw (next_event _ _ c.loop-event-test.true) at c.loop-event.invariant) c.put.ensures) c.put_event-in-loop-event.ensures

pub returns : goal.returns
returns c = elim c.match-split_first.branch [
  | in-Some+else-loop-event-test w ↦ w.loop-event.invariant.puts _ (rw (none_left _ _ w.loop-event-test.false, ← w.self-is) c.put-2.ensures)
  | in_default w ↦ puts_as (no_events _ (sym c.as_chunks.ensures.front_len ∙ w.in_default.ensures.cases)) (rw w.self-is at c.put-2.ensures)
]
