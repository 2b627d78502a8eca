-- Document 01, 'Results and refusals', the console's call: the status, the result area and the room, for every input.
use Rattle.std.specs.Prelude.{ℕ, ◌+◌, ◌/◌, ◌%◌, cond, List, [], ◌∷◌, ◌++◌, ◌≡◌, eqb, length}
use Rattle.verdict.specs.Judged.{Said, explained_by, unexplained_in, undecided_at, refused, judged, room_judged}
use Rattle.console.specs.declared.Handed.{Handed}

abbrev pub with_numbers : ℕ → ℕ → ℕ → ℕ → Handed
with_numbers status points events place = record { status = status; points = points; events = events; place = place }

-- 0 explained, 1 unexplained, 2 undecided, or 10 plus the refusal number; points, events and place, 0 where there is none, and
-- on a refusal only the place
abbrev pub handed_by : Said → Handed
handed_by (explained_by points events) = with_numbers 0 points events 0
handed_by (unexplained_in points) = with_numbers 1 points 0 0
handed_by (undecided_at points) = with_numbers 2 points 0 0
handed_by (refused number place) = with_numbers (10 + number) 0 0 place

-- a number in 4 bytes, least byte first
abbrev pub four_bytes : ℕ → List ℕ
four_bytes x = x % 256 ∷ x / 256 % 256 ∷ x / 65536 % 256 ∷ x / 16777216 % 256 ∷ []

-- the area gets points, events and place, 4 bytes each
abbrev pub area_of : Handed → List ℕ
area_of h = four_bytes h.points ++ (four_bytes h.events ++ four_bytes h.place)

-- an area not of 12 bytes is refusal 9 before all else
unfoldable pub status : List ℕ → ℕ → ℕ → List ℕ → List ℕ → ℕ
status file trace budget room area =
    cond (eqb (length area) 12) (handed_by (judged file trace budget (length room))).status (handed_by (refused 9 0)).status

-- and stays untouched, as does the room
unfoldable pub area_after : List ℕ → ℕ → ℕ → List ℕ → List ℕ → List ℕ
area_after file trace budget room area = cond (eqb (length area) 12) (area_of (handed_by (judged file trace budget (length room)))) area

unfoldable pub room_after : List ℕ → ℕ → ℕ → List ℕ → List ℕ → List ℕ
room_after file trace budget room area = cond (eqb (length area) 12) (room_judged file trace budget room) room

-- What the contract of the call allows: this status, this room and this area afterwards.
pub record Allowed (file : List ℕ) (trace budget : ℕ) (room area : List ℕ) (answer : ℕ) (room_left area_left : List ℕ) : Type 0 where
  pub says : answer ≡ status file trace budget room area
  pub leaves : room_left ≡ room_after file trace budget room area
  pub tells : area_left ≡ area_after file trace budget room area
