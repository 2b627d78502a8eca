-- What the budget decides, and that a larger one repeats it.
-- Assumes nothing.
use mathlib.Core.Bool.{Bool, true, false, cond}
use mathlib.Core.List.{List}
use mathlib.Core.Path.{◌≡◌, refl, sym, ◌∙◌, subst}
use Prim.Native.Nat.{ℕ, suc, ◌≤◌, ◌<◌}
use native.Mathlib.Nat.{le_trans}
use native.Mathlib.Omega.{arith}
use lib.Dec.{leb, ltb}
use borrow.Author.Tests.{le-leb, lt-leb, lt-ltb, leb-true}
use Rattle.model.specs.Walk.{Walked, found, endless, stopped, explained, unexplained, undecided, too_deep, needed, Unstopped, cut, Decided}

module _ {E : Type 0} where
  -- within the budget the cut says what the walk found; beyond it, undecided
  pub kept_found : (b k : ℕ) (es : List E) → k ≤ b → cut b (found k es) ≡ explained k es
  unfolding cut
  kept_found b k es h = rw le-leb

  pub kept_endless : (b k : ℕ) → k ≤ b → cut {E = E} b (endless k) ≡ unexplained k
  unfolding cut
  kept_endless b k h = rw le-leb

  pub kept_stopped : (b k : ℕ) → k < b → cut {E = E} b (stopped k) ≡ too_deep
  unfolding cut
  kept_stopped b k h = rw lt-ltb

  -- where the walk needs more points than the budget, it is undecided
  pub spent : (b : ℕ) (w : Walked E) → Unstopped w → b < needed w → cut b w ≡ undecided b
  unfolding cut needed
  spent b (found k es) u h = rw lt-leb
  spent b (endless k) u h = rw lt-leb
  spent b (stopped k) u h = absurd u

  -- where it does not, it is decided
  pub decides : (b : ℕ) (w : Walked E) → Unstopped w → needed w ≤ b → Decided (cut b w)
  unfolding needed
  decides b (found k es) u h = subst Decided (sym (kept_found b k es h)) tt
  decides b (endless k) u h = subst Decided (sym (kept_endless b k h)) tt
  decides b (stopped k) u h = absurd u

  -- what is decided needed no more than the budget
  pub afforded : (b : ℕ) (w : Walked E) → Decided (cut b w) → (needed w ≤ b) × Unstopped w
  unfolding cut needed
  afforded b (found k es) d = go (leb k b) refl d
    where
      go : (t : Bool) → leb k b ≡ t → Decided (cond t (explained k es) (undecided b)) → (k ≤ b) × Unit {0}
      go true e h = (leb-true k b e, tt)
      go false e h = absurd h
  afforded b (endless k) d = go (leb k b) refl d
    where
      go : (t : Bool) → leb k b ≡ t → Decided {E = E} (cond t (unexplained k) (undecided b)) → (k ≤ b) × Unit {0}
      go true e h = (leb-true k b e, tt)
      go false e h = absurd h
  afforded b (stopped k) d = absurd (go (ltb k b) d)
    where
      go : (t : Bool) → Decided {E = E} (cond t too_deep (undecided b)) → ⊥
      go true h = h
      go false h = h

  -- any larger budget repeats a decided result, explanation and count included
  pub repeats : (b c : ℕ) (w : Walked E) → b ≤ c → Decided (cut b w) → cut c w ≡ cut b w
  unfolding needed
  repeats b c (found k es) l d = let h = (afforded b (found k es) d).0 in kept_found c k es (le_trans h l) ∙ sym (kept_found b k es h)
  repeats b c (endless k) l d = let h = (afforded b (endless k) d).0 in kept_endless c k (le_trans h l) ∙ sym (kept_endless b k h)
  repeats b c (stopped k) l d = absurd (afforded b (stopped k) d).1

  -- a budget of 0 is undecided, since the root is a point
  pub none_for_nothing : (w : Walked E) → 0 < needed w → cut 0 w ≡ undecided 0
  unfolding needed cut
  none_for_nothing (found k es) h = spent 0 (found k es) tt h
  none_for_nothing (endless k) h = spent 0 (endless k) tt h
  none_for_nothing (stopped k) h = rw (lt-leb (suc k) 0 (omega arith))
