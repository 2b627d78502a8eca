-- The room for what is printed: of a line of events, of a trace and of all traces; and what it is to put a text there.
use Rattle.std.specs.Prelude.{ℕ, ◌+◌, ◌*◌, ◌≤◌, List, length}
use Rattle.lines.specs.Put.{line_room, Stands}

-- an evening has at most 256 observations on 8 tablets, so an explanation has at most 2,304 events, 2 bytes each; on its
-- line each takes at most 3
abbrev pub most_events : ℕ
most_events = 2304

abbrev pub room_size : ℕ
room_size = 2 * most_events

abbrev pub explanation_room : ℕ
explanation_room = 3 * most_events + 1

abbrev pub trace_room : ℕ
trace_room = line_room + explanation_room

-- a file has at most 16 traces
abbrev pub report_room : ℕ
report_room = 16 * trace_room

-- where there is that much room from a place on, the text is no longer and stands there
unfoldable pub PutIn : ℕ → List ℕ → List ℕ → ℕ → ℕ → List ℕ → Type 0
PutIn room text out at next last = at + room ≤ length out → Stands text out at next last × (length text ≤ room)
