-- The choices of a point as one set of numbers, in document 01's order: 0 is the next observation, 1 to 8 are the UPs at
-- tablets 1 to 8, and from 9 on the DOWNs at tablets 1, 2 and so on.
use Rattle.std.specs.Prelude.{ℕ, zero, suc, ◌+◌, ◌-◌, ◌<◌, ◌^◌, cond, List, [], ◌∷◌, ◌≡◌, leb, eqb}
use Rattle.marks.specs.Sets.{has}
use Rattle.model.specs.Walk.{Choice, kept}
use Rattle.model.specs.Model.{service, may}
use Rattle.model.specs.declared.State.{State}
use Rattle.model.specs.declared.Observation.{Observation}
use Rattle.model.specs.declared.Event.{Event}
use Rattle.model.specs.declared.Event.TheVariants.{Observed, Up, Down}

-- the event that a number stands for, where o is the next observation
unfoldable pub event_of : ℕ → Observation → Event
event_of i o = cond (eqb i 0) (Observed o) (cond (leb i 8) (Up i) (Down (i - 8)))

-- the choice: an observation is used up, a hidden event uses nothing
unfoldable pub slot : ℕ → Observation → List Observation → Choice Observation Event
unfolding event_of
slot i o obs = record { event = event_of i o; left = cond (eqb i 0) obs (o ∷ obs) }

-- the choices in a set, from number i on, of which k are left; `kept` is the same for every service
unfoldable pub picked : ℕ → Observation → List Observation → ℕ → ℕ → List (Choice Observation Event)
unfolding slot
picked set o obs i zero = []
picked set o obs i (suc k) = kept (service 0) (has set i) (slot i o obs) (picked set o obs (i + 1) k)

-- all choices in a set of numbers below 64; an end has none
unfoldable pub choices_in : ℕ → List Observation → List (Choice Observation Event)
unfolding picked
choices_in set [] = []
choices_in set (o ∷ obs) = picked set o obs 0 64

-- a set holds exactly the possible choices of a point
pub record Possible (n : ℕ) (s : State) (o : Observation) (set : ℕ) : Type 0 where
  pub few : set < 2 ^ 17
  pub each : (i : ℕ) → i < 17 → has set i ≡ may n s (event_of i o)
