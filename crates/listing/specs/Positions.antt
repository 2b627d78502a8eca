-- Going through a body, step by step: where a reader stands after each step, and what the steps give.
use Rattle.std.specs.Prelude.{◌≡◌, ℕ, zero, suc, ◌+◌, ◌-◌, ◌/◌, List, [], ◌∷◌, length, Option, Some, None}
use Rattle.std.specs.Iterator.{YieldsFirst}
use Rattle.model.specs.declared.Observation.{Observation}
use Rattle.records.specs.Records.{record_at, next_record, observation_of}
use Rattle.records.specs.declared.Record.{Record}
use Rattle.listing.specs.declared.Listing.{Listing}

-- the position after a step: 12 bytes on, or at the end the same
abbrev pub position : Option Record × ℕ → ℕ
position step = step.1

-- the position after so many steps from a position
unfoldable pub place : List ℕ → ℕ → ℕ → ℕ
place body at zero = at
place body at (suc steps) = place body (position (next_record body at)) steps

-- what a step gives: an observation, or at the end none
abbrev pub given_by : Option Record × ℕ → List Observation → List Observation
given_by (Some r, after) rest = observation_of r ∷ rest
given_by (None, same) rest = rest

-- what so many steps give
unfoldable pub through : List ℕ → ℕ → ℕ → List Observation
through body at zero = []
through body at (suc steps) = given_by (next_record body at) (through body (position (next_record body at)) steps)

-- so many records of a body from a position on
unfoldable pub listed : ℕ → List ℕ → ℕ → List Record
listed zero body at = []
listed (suc k) body at = record_at body at ∷ listed k body (at + 12)

-- the records of a body from a position on, one for each 12 bytes that are left
unfoldable pub records_from : List ℕ → ℕ → List Record
unfolding listed
records_from body at = listed ((length body - at) / 12) body at

-- the records that a reader still gives
abbrev pub left : Listing → List Record
left reader = records_from reader.body.now reader.at

-- One call of a reader's `next` gave r and left t: the first of the records that were left, if there was one. It is a step at
-- the reader's position, on the same body.
abbrev pub Gives : Listing → Option Record → Listing → Type 0
Gives s r t = YieldsFirst left s r t × (t.body ≡ s.body) × ((r, t.at) ≡ next_record s.body.now s.at)
