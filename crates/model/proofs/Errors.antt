-- The errors that earlier versions made, and those that cases A to K would not show, ruled out of the table one by one.
-- Assumes nothing.
use mathlib.Core.Bool.{Bool, true, false, cond, not, ◌&&◌}
use mathlib.Core.List.Memᴰ
use mathlib.Core.List.{List, [], ◌∷◌, Memᴰ}
use mathlib.Core.Logic.{⊎_elim}
use mathlib.Core.Path.{◌≡◌, refl, ap, ◌∙◌}
use Prim.Native.Nat.{ℕ, ◌<◌}
use lib.Dec.{eqb}
use borrow.Author.Tests.{eqb-true, eq-eqb, not-true}
use Rattle.marks.specs.Sets.{add, only}
use Rattle.marks.proofs.Laws.{has_add_same, has_only_same}
use Rattle.model.specs.Model.{seat, mark_at, local_of, fresh_at, dirty_at, is_tablet, tablets, every, fresh_and_clean, all_fresh_and_clean, wins, joins, may, then}
use Rattle.model.specs.declared.State.{State}
use Rattle.model.specs.declared.Observation.TheVariants.{Write, Stabilize}
use Rattle.model.specs.declared.Event.TheVariants.{Observed, Up, Down}
use Rattle.std.proofs.lemmas.Bool.{and_parts}

-- "A dirty tablet only uploads."
pub only_uploads : (n : ℕ) (s : State) (t : ℕ) → may n s (Down t) ≡ true → dirty_at s t ≡ false
unfolding may
only_uploads n s t h =
    let a = and_parts (is_tablet n t) (not (fresh_at s t) && not (dirty_at s t)) h in
    not-true (dirty_at s t) (and_parts (not (fresh_at s t)) (not (dirty_at s t)) a.1).1

-- "It stays stale until DOWN", whatever its UP does.
pub stays_stale : (s : State) (t : ℕ) → fresh_at s t ≡ false → fresh_at (then s (Up t)) t ≡ false
unfolding then mark_at
stays_stale s t h = go (wins s t)
  where
    go : (b : Bool) → mark_at (cond b (only s.fresh (seat t)) s.fresh) t ≡ false
    go true = has_only_same s.fresh (seat t) ∙ h
    go false = h

-- "The tablet is dirty after it", also after a write of the value already there.
pub dirty_after_write : (s : State) (t y x : ℕ) → seat t < 8 → dirty_at (then s (Observed (Write t y x))) t ≡ true
unfolding then mark_at
dirty_after_write s t y x h = has_add_same 8 s.dirty (seat t) h

-- "The sets must be equal."
pub equal_sets : (n : ℕ) (s : State) (x c : ℕ) → may n s (Observed (Stabilize x c)) ≡ true → s.conflicts ≡ c
unfolding may
equal_sets n s x c h =
    let settled = all_fresh_and_clean n s.fresh s.dirty in
    let a = and_parts (eqb s.server x) (eqb s.conflicts c && settled) h in
    eqb-true s.conflicts c (and_parts (eqb s.conflicts c) settled a.1).0

-- "Every tablet fresh and clean", so that none is stale and none is dirty.
every_member : (p : ℕ → Bool) (ts : List ℕ) (t : ℕ) → every p ts ≡ true → Memᴰ t ts → p t ≡ true
unfolding every
every_member p [] t h m = absurd (Memᴰ.not-nil m)
every_member p (u ∷ ts) t h m =
    let a = and_parts (p u) (every p ts) h in
    ⊎_elim (λ e. ap p e ∙ a.0) (λ k. every_member p ts t a.1 k) (Memᴰ.cases_cons m)

pub none_stale_none_dirty : (n : ℕ) (s : State) (x c t : ℕ) → may n s (Observed (Stabilize x c)) ≡ true → Memᴰ t (tablets n)
    → (fresh_at s t ≡ true) × (dirty_at s t ≡ false)
unfolding may all_fresh_and_clean
none_stale_none_dirty n s x c t h m =
    let settled = all_fresh_and_clean n s.fresh s.dirty in
    let a = and_parts (eqb s.server x) (eqb s.conflicts c && settled) h in
    let b = (and_parts (eqb s.conflicts c) settled a.1).1 in
    let k = and_parts (fresh_at s t) (not (dirty_at s t)) (every_member (fresh_and_clean s.fresh s.dirty) (tablets n) t b m) in
    (k.0, not-true (dirty_at s t) k.1)

-- "If its local value is neither the server value nor 0, it joins the conflict set": 0 never does.
pub zero_never_joins : (s : State) (t : ℕ) → local_of s t ≡ 0 → (then s (Up t)).conflicts ≡ s.conflicts
unfolding then joins
zero_never_joins s t h =
    let z = eq-eqb (local_of s t) 0 h in
    ap (λ (b : Bool). cond (not (fresh_at s t) && (not (eqb (local_of s t) s.server) && not b)) (add 64 s.conflicts (local_of s t)) s.conflicts) z
    ∙ go (fresh_at s t) (eqb (local_of s t) s.server)
  where
    go : (f e : Bool) → cond (not f && (not e && false)) (add 64 s.conflicts (local_of s t)) s.conflicts ≡ s.conflicts
    go true e = refl
    go false true = refl
    go false false = refl

-- "Otherwise only t's clean mark changes": an UP of the server value makes nobody stale.
pub equal_value_keeps_fresh : (s : State) (t : ℕ) → local_of s t ≡ s.server → (then s (Up t)).fresh ≡ s.fresh
unfolding then wins
equal_value_keeps_fresh s t h =
    let e = eq-eqb (local_of s t) s.server h in
    ap (λ (b : Bool). cond (fresh_at s t && not b) (only s.fresh (seat t)) s.fresh) e ∙ go (fresh_at s t)
  where
    go : (f : Bool) → cond (f && false) (only s.fresh (seat t)) s.fresh ≡ s.fresh
    go true = refl
    go false = refl
