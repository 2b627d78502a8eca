-- What a reader has left, step by step: so a `for` over it gives the records of its body from its position on, and then ends.
-- Assumes nothing.
use Prim.Native.Nat.{ℕ, zero, suc, ◌+◌, ◌-◌, ◌*◌, ◌/◌, ◌≤◌, ◌<◌}
use native.Mathlib.Decide.{dec_le}
use native.Mathlib.Omega.{arith}
use mathlib.Core.List.{List, [], ◌∷◌, map}
use mathlib.Core.Path.{◌≡◌, refl, sym, ap, ◌∙◌}
use Rattle.std.specs.Prelude.{Option, Some, None}
use Rattle.std.specs.Iterator.{YieldsFirst, MakesProgress, item_count}
use Rattle.std.specs.declared.iter.Iterator.{can_next-default}
use Rattle.std.specs.Iterator.Runs.{YieldsInOrder}
use Rattle.std.proofs.iter.runs.Sources.{from_front, as_is}
use lib.ListN.{length}
use Rattle.model.specs.declared.Observation.{Observation}
use Rattle.records.specs.Records.{record_at, next_record, observation_of, observations}
use Rattle.records.specs.declared.Record.{Record}
use Rattle.listing.specs.Positions.{position, given_by, through, listed, records_from, left, Gives}
use Rattle.listing.specs.declared.Listing.{Listing}
use Rattle.listing.proofs.Theorems.{whole_record, none_left, all_in_order}

-- ---- one step

records_step : (body : List ℕ) (at : ℕ) → at + 12 ≤ length body → records_from body at ≡ record_at body at ∷ records_from body (at + 12)
unfolding records_from listed
records_step body at h =
    let e : (length body - at) / 12 ≡ suc ((length body - (at + 12)) / 12) = omega arith in ap (λ (k : ℕ). listed k body at) e

records_none : (body : List ℕ) (at : ℕ) → length body < at + 12 → records_from body at ≡ []
unfolding records_from listed
records_none body at h = let e : (length body - at) / 12 ≡ 0 = omega arith in ap (λ (k : ℕ). listed k body at) e

-- a step gives the first of them, and leaves the others
pub first_left : (s : Listing) → YieldsFirst left s (next_record s.body.now s.at).0 (record { body = s.body; at = (next_record s.body.now s.at).1 })
first_left s =
    elim (dec_le (s.at + 12) (length s.body.now)) [
      | yes h ↦ rw (whole_record s.body.now s.at h) (records_step s.body.now s.at h)
      | no h ↦
          rw (none_left s.body.now s.at (omega arith)) (records_none s.body.now s.at (omega arith), records_none s.body.now s.at (omega arith))
    ]

progress : (s t : Listing) (r : Option Record) → YieldsFirst left s r t → MakesProgress (can_next-default Listing Record) (item_count left) s r t
progress s t None h = record { on = λ _. tt; keeps = tt; rests = λ _. tt }
progress s t (Some x) h = record { on = λ _. (tt, tt, omega (arith, ap length h)); keeps = tt; rests = λ _. tt }

-- a step that gives a record leaves fewer
pub nearer : (s : Listing)
    → MakesProgress (can_next-default Listing Record) (item_count left) s (next_record s.body.now s.at).0 (record { body = s.body; at = (next_record s.body.now s.at).1 })
nearer s = progress s _ _ (first_left s)

-- ---- every step

-- Calls of `next` from any reader give the records that are left, in order, and then none: so does a `for` over it.
pub in_order : YieldsInOrder Gives left
in_order p met = as_is p (left p.from) (from_front Gives (λ (r : Record). r) left (λ s t h. ap length h.0.0) (λ s x t h. h.0) p met)

said_along : (body : List ℕ) (k at : ℕ) → at + 12 * k ≤ length body → map observation_of (listed k body at) ≡ through body at k
unfolding listed through
said_along body zero at h = refl
said_along body (suc k) at h =
    ap (λ (xs : List Observation). observation_of (record_at body at) ∷ xs) (said_along body k (at + 12) (omega arith))
    ∙ sym (ap (λ (s : Option Record × ℕ). given_by s (through body (position s) k)) (whole_record body at (omega arith)))

-- and what these records say, from the start of a body, is exactly the observations of that body
pub said_in_order : (body : List ℕ) → map observation_of (records_from body 0) ≡ observations body
unfolding records_from
said_in_order body =
    let e : (length body - 0) / 12 ≡ length body / 12 = omega arith in
    ap (λ (k : ℕ). map observation_of (listed k body 0)) e ∙ said_along body (length body / 12) 0 (omega arith) ∙ all_in_order body
