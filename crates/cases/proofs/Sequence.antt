-- Cases that are packed one after the other.
-- Assumes nothing.
use mathlib.Core.List.{List, [], ◌∷◌}
use mathlib.Core.Logic.{◌⊎◌, inl, inr}
use mathlib.Core.Path.{◌≡◌, refl, sym, ap, ◌∙◌}
use Prim.Native.Nat.{ℕ, zero, suc, ◌-◌, ◌≤◌, ◌<◌}
use native.Mathlib.Decide.{dec_le}
use native.Mathlib.Omega.{arith}
use lib.ListN.{length, take, drop, length-drop}
use borrow.Author.Tests.{le-leb, lt-leb}
use Rattle.cases.specs.Packed.{number_at, cases_within, cases_in}
use Rattle.cases.proofs.Packed.{no_number}

-- there is a first case, or none
first_within : (most : ℕ) (packed : List ℕ) → 0 < number_at packed 0 → number_at packed 0 ≤ length packed
    → cases_within (suc most) packed ≡ take (number_at packed 0) packed ∷ cases_within most (drop (number_at packed 0) packed)
unfolding cases_within
first_within most packed l h = rw (le-leb 1 (number_at packed 0) (omega arith), le-leb (number_at packed 0) (length packed) h) refl

none_within : (most : ℕ) (packed : List ℕ) → (number_at packed 0 ≡ 0) ⊎ (length packed < number_at packed 0) → cases_within most packed ≡ []
unfolding cases_within
none_within zero packed h = refl
none_within (suc most) packed (inl z) = rw (lt-leb 1 (number_at packed 0) (omega arith)) refl
none_within (suc most) packed (inr l) = rw (le-leb 1 (number_at packed 0) (omega arith), lt-leb (number_at packed 0) (length packed) l) refl

-- what comes next in the packed bytes: a case, or none
next_is : (packed : List ℕ)
    → ((number_at packed 0 ≡ 0) ⊎ (length packed < number_at packed 0)) ⊎ ((0 < number_at packed 0) × (number_at packed 0 ≤ length packed))
next_is packed =
    elim (dec_le 1 (number_at packed 0)) [
      | no z ↦ inl (inl (omega arith))
      | yes l ↦ elim (dec_le (number_at packed 0) (length packed)) [ no h ↦ inl (inr (omega arith)) | yes h ↦ inr (omega arith, h) ]
    ]

-- where no bytes are left there is none
nothing : (packed : List ℕ) → length packed ≤ 0 → (number_at packed 0 ≡ 0) ⊎ (length packed < number_at packed 0)
nothing packed l = inl (sym (no_number packed packed 0 refl (omega arith)))

-- there may be as many as there are bytes, or more
any_bound : (m n : ℕ) (packed : List ℕ) → length packed ≤ m → length packed ≤ n → cases_within m packed ≡ cases_within n packed
any_bound zero n packed l h = none_within zero packed (nothing packed l) ∙ sym (none_within n packed (nothing packed l))
any_bound (suc m) zero packed l h = none_within (suc m) packed (nothing packed h) ∙ sym (none_within zero packed (nothing packed h))
any_bound (suc m) (suc n) packed l h =
    elim (next_is packed) [
      | inl z ↦ none_within (suc m) packed z ∙ sym (none_within (suc n) packed z)
      | inr t ↦
          let size = number_at packed 0 in
          let left : length (drop size packed) ≡ length packed - size = length-drop size packed in
          first_within m packed t.0 t.1
          ∙ ap (λ (others : List (List ℕ)). take size packed ∷ others) (any_bound m n (drop size packed) (omega (arith, t.0)) (omega (arith, t.0)))
          ∙ sym (first_within n packed t.0 t.1)
    ]

pub first_case : (packed first rest : List ℕ) (size : ℕ) → size ≡ number_at packed 0 → 0 < size → size ≤ length packed
    → first ≡ take size packed → rest ≡ drop size packed → cases_in packed ≡ first ∷ cases_in rest
unfolding cases_in
first_case packed first rest size e l h f r =
    let left : length rest ≡ length packed - size = ap length r ∙ length-drop size packed in
    any_bound (length packed) (suc (length packed)) packed (omega arith) (omega arith)
    ∙ first_within (length packed) packed (omega arith) (omega arith)
    ∙ rw (← e, ← f, ← r) (ap (λ (others : List (List ℕ)). first ∷ others) (any_bound (length packed) (length rest) rest (omega arith) (omega arith)))

pub no_case : (packed : List ℕ) → (number_at packed 0 ≡ 0) ⊎ (length packed < number_at packed 0) → cases_in packed ≡ []
unfolding cases_in
no_case packed h = none_within (length packed) packed h

-- there are no more cases than bytes
no_more_within : (most : ℕ) (packed : List ℕ) → length packed ≤ most → length (cases_within most packed) ≤ length packed
no_more_within zero packed l = rw (none_within zero packed (nothing packed l)) (omega arith)
no_more_within (suc most) packed l =
    elim (next_is packed) [
      | inl z ↦ rw (none_within (suc most) packed z) (omega arith)
      | inr t ↦
          let size = number_at packed 0 in
          let left : length (drop size packed) ≡ length packed - size = length-drop size packed in
          let others : length (cases_within most (drop size packed)) ≤ length (drop size packed) = no_more_within most (drop size packed) (omega (arith, t.0)) in
          rw (first_within most packed t.0 t.1) (omega (arith, t.0, t.1))
    ]

pub no_more_cases : (packed : List ℕ) → length (cases_in packed) ≤ length packed
unfolding cases_in
no_more_cases packed = no_more_within (length packed) packed (omega arith)
