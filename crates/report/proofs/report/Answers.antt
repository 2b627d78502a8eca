-- `report::report` meets its contract: nothing in too little room, the line of a refused file, or the lines of all traces.
-- Assumes nothing.
use mathlib.Core.Path.{sym}
use Rattle.lines.proofs.Putting.{line_kept}
use Rattle.report.proofs.Listed.{refused_printed, fourth_byte, traces_printed}
use Rattle.report.proofs.report.Goals as goal

pub returns-then-out-lt-ROOM : goal.returns-then-out-lt-ROOM
returns-then-out-lt-ROOM c = let both = line_kept _ _ _ c.if-out-lt-ROOM.true in record { result = both.0; out = both.1 }

pub bounds-file-3 : goal.bounds-file-3
bounds-file-3 c = fourth_byte _ (sym c.in-Ok.ensures)

pub returns-in-Ok : goal.returns-in-Ok
returns-in-Ok c =
    let both = traces_printed _ _ _ _ _ c.if-out-lt-ROOM.false (sym c.in-Ok.ensures) c.from.ensures c.put_traces.ensures in record { result = both.0; out = both.1 }

pub returns-in-Err : goal.returns-in-Err
returns-in-Err c =
    let both = refused_printed _ _ _ _ _ c.if-out-lt-ROOM.false c.in-Err.ensures (c.refusal_line.ensures.result, c.refusal_line.ensures.out) in
    record { result = both.0; out = both.1 }
