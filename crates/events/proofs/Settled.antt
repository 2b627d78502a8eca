-- Asking the tablets one after the other: all are asked where each passes, and one that fails is enough.
-- Assumes nothing.
use mathlib.Core.Bool.{Bool, true, false, ◌&&◌, and-true, and-false, and_assoc}
use mathlib.Core.List.{List, [], ◌∷◌, ◌++◌}
use mathlib.Core.Path.{◌≡◌, refl, sym, ap, ap₂, ◌∙◌}
use Prim.Native.Nat.{ℕ, zero, suc, ◌<◌}
use native.Mathlib.Decide.{ℕ_discrete}
use native.Mathlib.Omega.{arith}
use native.Mathlib.Numerals.{one-add}
use lib.ListN.{length, get_or}
use Rattle.std.specs.Bool.{MatchBool}
use Rattle.std.specs.List.{range_with_len, AllWithin, HoldsAt}
use Rattle.std.proofs.lemmas.List.FromFn.{length-range_with_len, get_or-range_with_len}
use Rattle.model.specs.Model.{every, up_to}

every_last : (p : ℕ → Bool) (ts : List ℕ) (t : ℕ) → every p (ts ++ (t ∷ [])) ≡ (every p ts && p t)
unfolding every
every_last p [] t = and-true (p t)
every_last p (x ∷ ts) t = ap (λ (b : Bool). p x && b) (every_last p ts t) ∙ sym (and_assoc (p x) (every p ts) (p t))

every_more : (p : ℕ → Bool) (n : ℕ) → every p (up_to (suc n)) ≡ (every p (up_to n) && p (suc n))
unfolding up_to
every_more p n = every_last p (up_to n) (suc n)

all_pass : (p : ℕ → Bool) (n : ℕ) → ((k : ℕ) → k < n → p (suc k) ≡ true) → every p (up_to n) ≡ true
unfolding every up_to
all_pass p zero h = refl
all_pass p (suc n) h = every_more p n ∙ ap₂ ◌&&◌ (all_pass p n (λ k l. h k (omega arith))) (h n (omega arith))

one_fails : (p : ℕ → Bool) (k n : ℕ) → k < n → p (suc k) ≡ false → every p (up_to n) ≡ false
one_fails p k zero l h = absurd (omega arith)
one_fails p k (suc n) l h =
    every_more p n
    ∙ (elim (ℕ_discrete k n) [
      | yes e ↦ ap (λ b. every p (up_to n) && b) (rw e at h) ∙ and-false (every p (up_to n))
      | no e ↦ ap (λ b. b && p (suc n)) (one_fails p k n (omega arith) h)
    ])

-- the number at a place of those asked
asked_at : (n k d : ℕ) → k < n → get_or (range_with_len 1 n) k d ≡ suc k
asked_at n k d l = get_or-range_with_len 1 n k d l ∙ one-add k

-- what is told of the tablets asked decides whether all pass
pub every_asked : (p : ℕ → Bool) (n : ℕ) (r : Bool)
    → MatchBool r (AllWithin (λ t. p t ≡ true) (range_with_len 1 n) 0 (length (range_with_len 1 n)))
    ((k : ℕ) × (k < length (range_with_len 1 n)) × HoldsAt (λ t. p t ≡ false) (range_with_len 1 n) k)
    → r ≡ every p (up_to n)
every_asked p n true h = sym (all_pass p n (λ k l. rw (asked_at n k 0 l) at (h k 0 (omega arith) (rw length-range_with_len l))))
every_asked p n false h =
    let l : h.0 < n = rw length-range_with_len at h.1 in
    sym (one_fails p h.0 n l (rw (asked_at n h.0 0 l) at (h.2 0)))
