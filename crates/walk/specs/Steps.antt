-- What a visit hands back: what is left of the budget, and the events in the room.
use Rattle.std.specs.Prelude.{ℕ, zero, suc, ◌-◌, ◌*◌, cond, List, [], ◌∷◌, ◌++◌, leb, ltb, length, drop, Some, None, Result, Ok, Err}
use Rattle.model.specs.Walk.{Choice, Walked, found, endless, stopped, walked, Outcome, explained, unexplained, undecided, too_deep}
use Rattle.model.specs.Model.{service, then, depth, outcome}
use Rattle.model.specs.declared.State.{State}
use Rattle.model.specs.declared.Observation.{Observation}
use Rattle.model.specs.declared.Observation.TheVariants.{Read, Write, Stabilize, Failed}
use Rattle.model.specs.declared.Event.{Event}
use Rattle.model.specs.declared.Event.TheVariants.{Observed, Up, Down}
use Rattle.walk.specs.declared.Seen.{Seen}
use Rattle.walk.specs.declared.Walked.{Walked as Told}
use Rattle.walk.specs.declared.Stop.{Stop}
use Rattle.walk.specs.declared.Stop.TheVariants.{Spent, Deep, NoRoom}

-- ---- events in the room

-- an event as two bytes: kind (5 UP, 6 DOWN, else the record's kind) and tablet
abbrev pub event_bytes : Event → List ℕ
event_bytes (Observed (Read t x)) = 1 ∷ t ∷ []
event_bytes (Observed (Write t y x)) = 2 ∷ t ∷ []
event_bytes (Observed (Stabilize x c)) = 3 ∷ 0 ∷ []
event_bytes (Observed Failed) = 4 ∷ 0 ∷ []
event_bytes (Up t) = 5 ∷ t ∷ []
event_bytes (Down t) = 6 ∷ t ∷ []

unfoldable pub laid : List Event → List ℕ
laid [] = []
laid (e ∷ es) = event_bytes e ++ laid es

-- the room with the events laid at its front, its later bytes kept
unfoldable pub laid_in : List Event → List ℕ → List ℕ
unfolding laid
laid_in es room = laid es ++ drop (2 * length es) room

-- ---- within a budget

-- what a visit says that was not stopped: an end so many events from here, or no end
abbrev pub an_end : ℕ → ℕ → Result Seen Stop
an_end left events = Ok (record { left = left; events = Some events })

abbrev pub no_end : ℕ → Result Seen Stop
no_end left = Ok (record { left = left; events = None })

-- what is left of a budget of b points after a walk
unfoldable pub left_of : ℕ → Walked Event → Result Seen Stop
left_of b (found k es) = cond (leb k b) (an_end (b - k) (length es)) (Err Spent)
left_of b (endless k) = cond (leb k b) (no_end (b - k)) (Err Spent)
left_of b (stopped k) = cond (ltb k b) (Err Deep) (Err Spent)

-- the room after it: only a found end is written
unfoldable pub room_after : ℕ → Walked Event → List ℕ → List ℕ
unfolding laid_in
room_after b (found k es) room = cond (leb k b) (laid_in es room) room
room_after b (endless k) room = room
room_after b (stopped k) room = room

-- the walk of a child that may have d more events, itself included
unfoldable pub deeper : ℕ → ℕ → State → Choice Observation Event → Walked Event
deeper n zero s c = stopped 0
deeper n (suc d) s c = walked (service n) d (then s c.event) c.left

-- ---- the answer

-- what a walk says that was not stopped: an end after so many points, or none in all of them
abbrev pub first_end : ℕ → ℕ → Result Told Stop
first_end points events = Ok (record { points = points; events = Some events })

abbrev pub none_in : ℕ → Result Told Stop
none_in points = Ok (record { points = points; events = None })

unfoldable pub answer_of : Outcome Event → Result Told Stop
answer_of (explained k es) = first_end k (length es)
answer_of (unexplained k) = none_in k
answer_of (undecided b) = Err Spent
answer_of too_deep = Err Deep

unfoldable pub outcome_in : Outcome Event → List ℕ → List ℕ
unfolding laid_in
outcome_in (explained k es) room = laid_in es room
outcome_in (unexplained k) room = room
outcome_in (undecided b) room = room
outcome_in too_deep room = room

-- room for the explanation is 2·(T + n·W) bytes, or there is no walk
unfoldable pub answered : ℕ → List Observation → ℕ → ℕ → Result Told Stop
unfolding answer_of
answered n obs budget room = cond (ltb room (2 * depth n obs)) (Err NoRoom) (answer_of (outcome n obs budget))

unfoldable pub room_answered : ℕ → List Observation → ℕ → List ℕ → List ℕ
unfolding outcome_in
room_answered n obs budget room = cond (ltb (length room) (2 * depth n obs)) room (outcome_in (outcome n obs budget) room)
