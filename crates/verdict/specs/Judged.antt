-- Document 01, 'Results and refusals': what is said of one trace of one file, within a budget and a room.
use Rattle.std.specs.Prelude.{ℕ, ◌*◌, cond, List, ◌≡◌, ltb, length, Result, Ok, Err}
use Rattle.model.specs.Walk.{Outcome, explained, unexplained, undecided, too_deep}
use Rattle.model.specs.Model.{depth, outcome}
use Rattle.model.specs.declared.Observation.{Observation}
use Rattle.model.specs.declared.Event.{Event}
use Rattle.records.specs.Records.{observations}
use Rattle.tracefile.specs.Refusals as R
use Rattle.tracefile.specs.File.{tablets_in, check_trace, asked}
use Rattle.walk.specs.Steps.{outcome_in}
use Rattle.verdict.specs.declared.Verdict.{Verdict}
use Rattle.verdict.specs.declared.Verdict.TheVariants.{Explained, Unexplained, Undecided}
use Rattle.verdict.specs.declared.Refusal.{Refusal}
use Rattle.verdict.specs.declared.Refusal.TheVariants.{File, NoRoom, TooDeep}

-- what is said: explained with the point count and the number of events, unexplained with the point count, undecided with the
-- budget as its count, or a refusal's number and place
pub data Said : Type 0 where
  explained_by : ℕ → ℕ → Said
  unexplained_in : ℕ → Said
  undecided_at : ℕ → Said
  refused : ℕ → ℕ → Said

-- the numbers and values of each case of the answer
abbrev pub file_refusal : R.Answer → Said
file_refusal R.accepted = refused 0 0
file_refusal (R.refused number place) = refused number place

abbrev pub told : Result Verdict Refusal → Said
told (Ok (Explained points events)) = explained_by points events
told (Ok (Unexplained points)) = unexplained_in points
told (Ok (Undecided points)) = undecided_at points
told (Err (File r)) = file_refusal (R.refusal r)
told (Err NoRoom) = refused 9 0
told (Err TooDeep) = refused 10 0

-- the observations of trace t
abbrev pub evening : List ℕ → ℕ → List Observation
evening f t = observations (asked f t)

-- what a walk's outcome says
unfoldable pub said : Outcome Event → Said
said (explained k es) = explained_by k (length es)
said (unexplained k) = unexplained_in k
said (undecided b) = undecided_at b
said too_deep = refused 10 0

-- room for the explanation under 2·(T + n·W) bytes is refusal 9
unfoldable pub walked_in : List ℕ → ℕ → ℕ → ℕ → Said
unfolding said
walked_in f t budget room =
    cond (ltb room (2 * depth (tablets_in f) (evening f t))) (refused 9 0) (said (outcome (tablets_in f) (evening f t) budget))

unfoldable pub unless_refused : R.Answer → Said → Said
unless_refused R.accepted next = next
unless_refused (R.refused number place) next = refused number place

-- refusals 1 to 8 first
unfoldable pub judged : List ℕ → ℕ → ℕ → ℕ → Said
unfolding unless_refused walked_in
judged f t budget room = unless_refused (check_trace f t) (walked_in f t budget room)

-- the room afterwards
unfoldable pub room_walked : List ℕ → ℕ → ℕ → List ℕ → List ℕ
room_walked f t budget room =
    cond (ltb (length room) (2 * depth (tablets_in f) (evening f t))) room (outcome_in (outcome (tablets_in f) (evening f t) budget) room)

unfoldable pub room_unless : R.Answer → List ℕ → List ℕ → List ℕ
room_unless R.accepted room next = next
room_unless (R.refused number place) room next = room

unfoldable pub room_judged : List ℕ → ℕ → ℕ → List ℕ → List ℕ
unfolding room_unless room_walked
room_judged f t budget room = room_unless (check_trace f t) room (room_walked f t budget room)

-- What the contract of the call allows: for a file, a trace number, a budget and a room, this to be said and this room
-- afterwards.
pub record Allowed (file : List ℕ) (trace budget : ℕ) (room : List ℕ) (answer : Said) (after : List ℕ) : Type 0 where
  pub says : answer ≡ judged file trace budget (length room)
  pub leaves : after ≡ room_judged file trace budget room
