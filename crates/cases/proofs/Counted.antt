-- A tally of one answer after another.
-- Assumes nothing.
use mathlib.Core.Bool.{Bool, true, false, cond}
use mathlib.Core.List.{List, [], ◌∷◌, ◌++◌}
use mathlib.Core.Path.{◌≡◌, sym, ap, ap₂, ◌∙◌}
use Prim.Native.Nat.{ℕ, ◌+◌, ◌≤◌}
use native.Mathlib.Nat.{zero-add}
use native.Mathlib.Omega.{arith}
use lib.ListN.{length}
use Rattle.std.specs.Prelude.{Option, Some, is_some, count_by}
use Rattle.std.specs.Iterator.{Yields, YieldsFirstBy}
use Rattle.std.proofs.lemmas.Iterator.Consumers.{YieldsList-from_first, YieldsList-turn}
use Rattle.std.specs.List.{AllZip}
use Rattle.std.proofs.lemmas.List.Sums.{sum_by-append, count_by-le-length}
use Rattle.std.proofs.lemmas.Slice.Zip.{AllZip-long}
use Rattle.cases.specs.declared.Case.{Case}
use Rattle.cases.specs.declared.Cases.{Cases}
use Rattle.cases.specs.Seen.{packed_of, cases_left}
use Rattle.cases.specs.declared.Tally.{Tally}
use Rattle.cases.specs.Packed.{cases_in}
use Rattle.cases.specs.Tallied.{Comes, differs}
use Rattle.cases.proofs.Sequence.{no_more_cases}

-- what counts for one answer
abbrev pub one : Bool → ℕ
one b = cond b 1 0

both_more : {A B : Type 0} (R : A → B → Type 0) (xs : List A) (ys : List B) (x : A) (y : B) → AllZip R xs ys → R x y → AllZip R (xs ++ x ∷ []) (ys ++ y ∷ [])
both_more R [] [] x y h r = (r, h)
both_more R [] (z ∷ ys) x y h r = absurd h
both_more R (z ∷ xs) [] x y h r = absurd h
both_more R (z ∷ xs) (w ∷ ys) x y h r = (h.0, both_more R xs ys x y h.1 r)

-- one answer more
counted : {A : Type 0} (p : A → Bool) (xs : List A) (x : A) (n : ℕ) → n ≡ count_by p xs → n + one (p x) ≡ count_by p (xs ++ x ∷ [])
counted p xs x n e = ap (λ (m : ℕ). m + one (p x)) e ∙ sym (sum_by-append (λ y. one (p y)) xs (x ∷ []) ∙ ap (λ (m : ℕ). count_by p xs + m) (zero-add (one (p x))))

pub one_more : {gives : Case → Option Bool → Type 0} {cases : List Case} {tally : Tally} (case : Case) (answer : Option Bool) (asked other : ℕ)
    → Comes gives cases tally → gives case answer → asked ≡ one (is_some answer) → other ≡ one (differs answer)
    → Comes gives (cases ++ case ∷ []) (record { cases = tally.cases + asked; differ = tally.differ + other })
one_more {tally = tally} case answer asked other h r a o = record {
  answers = h.answers ++ answer ∷ [];
  each = both_more _ _ _ _ _ h.each r;
  come_to =
      ap₂ (λ (m n : ℕ). record { cases = m; differ = n })
      (ap (λ (n : ℕ). tally.cases + n) a ∙ counted is_some h.answers answer tally.cases (ap (λ (t : Tally). t.cases) h.come_to))
      (ap (λ (n : ℕ). tally.differ + n) o ∙ counted differs h.answers answer tally.differ (ap (λ (t : Tally). t.differ) h.come_to));
}

one_at_most : (b : Bool) → one b ≤ 1
one_at_most true = omega arith
one_at_most false = omega arith

-- with the next case, no more are counted than there are bytes
pub fits_next : {gives : Case → Option Bool → Type 0} {cases : List Case} {tally : Tally} (packed : List ℕ) (b : Bool) (n : ℕ)
    (all left after : Cases) (step : Option Case) (case : Case)
    → cases_left all ≡ cases_in packed → Yields (YieldsFirstBy packed_of cases_left) all cases left
    → step ≡ Some case → YieldsFirstBy packed_of cases_left left step after → Comes gives cases tally → n ≡ one b
    → (tally.cases + n ≤ length packed) × (tally.differ + n ≤ length packed)
fits_next {cases = cases} {tally = tally} packed b n all left after step case f y e s h o =
    let turn = YieldsList-turn (YieldsList-from_first packed_of cases_left (cases_in packed) f) cases left y step after case e s in
    let long = AllZip-long _ _ _ h.each in
    let asked = ap (λ (t : Tally). t.cases) h.come_to in
    let other = ap (λ (t : Tally). t.differ) h.come_to in (
      omega (arith, turn.0, count_by-le-length is_some h.answers, no_more_cases packed, one_at_most b),
      omega (arith, turn.0, count_by-le-length differs h.answers, no_more_cases packed, one_at_most b),
    )
