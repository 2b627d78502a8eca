-- The event that a number stands for, and its two bytes.
-- Assumes nothing.
use mathlib.Core.Path.{◌≡◌}
use Prim.Native.Nat.{ℕ, ◌-◌, ◌≤◌, ◌<◌}
use borrow.Author.Tests.{eq-eqb, ne_eqb, le-leb, lt-leb}
use Rattle.model.specs.declared.Observation.{Observation}
use Rattle.model.specs.declared.Event.TheVariants.{Observed, Up, Down}
use Rattle.walk.specs.Choices.{event_of}

pub is_observed : (p : ℕ) (o : Observation) → p ≡ 0 → event_of p o ≡ Observed o
unfolding event_of
is_observed p o h = rw (eq-eqb p 0 h)

pub is_up : (p : ℕ) (o : Observation) → (p ≡ 0 → ⊥) → p ≤ 8 → event_of p o ≡ Up p
unfolding event_of
is_up p o h l = rw (ne_eqb p 0 h, le-leb p 8 l)

pub is_down : (p : ℕ) (o : Observation) → (p ≡ 0 → ⊥) → 8 < p → event_of p o ≡ Down (p - 8)
unfolding event_of
is_down p o h l = rw (ne_eqb p 0 h, lt-leb p 8 l)
