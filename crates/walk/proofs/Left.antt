-- What is left of the budget, and the room, as one choice is tried after the other.
-- Assumes nothing.
use mathlib.Core.Bool.{Bool, true, false, cond}
use mathlib.Core.List.{List, [], ◌∷◌, ◌++◌, append_assoc}
use mathlib.Core.Path.{◌≡◌, refl, sym, ap, ◌∙◌}
use Prim.Native.Nat.{ℕ, suc, ◌+◌, ◌-◌, ◌*◌, ◌≤◌, ◌<◌}
use native.Mathlib.Omega.{arith}
use Rattle.std.proofs.lemmas.Bool.Decides.{nat_tests}
use Rattle.std.proofs.Common.{Option, Some, None, Result, Ok, Err}
use lib.Dec.{leb}
use lib.ListN.{length, take, drop}
use lib.Seq.{drop-drop}
use Rattle.model.specs.Walk.{Walked, found, endless, stopped, after, or_else}
use Rattle.model.specs.Model.{service}
use Rattle.model.specs.declared.Event.{Event}
use Rattle.walk.specs.Steps.{event_bytes, laid, laid_in, an_end, no_end, left_of, room_after}
use Rattle.walk.specs.declared.Seen.{Seen}
use Rattle.walk.specs.declared.Stop.{Stop}
use Rattle.walk.specs.declared.Stop.TheVariants.{Spent, Deep}

-- what a visit leaves, by its events
pub an_end_is : (s : Seen) (k : ℕ) → s.events ≡ Some k → Ok s ≡ an_end s.left k
an_end_is s k h = ap (λ (e : Option ℕ). Ok (record { left = s.left; events = e })) h

pub no_end_is : (s : Seen) → s.events ≡ None → Ok s ≡ no_end s.left
no_end_is s h = ap (λ (e : Option ℕ). Ok (record { left = s.left; events = e })) h

-- ---- a point that is counted already

module _ (n : ℕ) where
  pub left_inside : (b : ℕ) (w : Walked Event) → left_of (b + 1) (after (service n) 1 w) ≡ left_of b w
  unfolding left_of after
  left_inside b (found k es) = grind (arith, nat_tests)
  left_inside b (endless k) = grind (arith, nat_tests)
  left_inside b (stopped k) = grind (arith, nat_tests)

  pub room_inside : (b : ℕ) (w : Walked Event) (room : List ℕ) → room_after (b + 1) (after (service n) 1 w) room ≡ room_after b w room
  unfolding room_after after
  room_inside b (found k es) room = grind (arith, nat_tests)
  room_inside b (endless k) room = refl
  room_inside b (stopped k) room = refl

  -- ---- one choice tried, and the others

  -- a walk that visits a point, or is too deep for one
  abbrev pub SomePoint : Walked Event → Type 0
  SomePoint (found k es) = 0 < k
  SomePoint (endless k) = 0 < k
  SomePoint (stopped k) = Unit {0}

  -- with nothing left, the budget is spent
  pub nothing_left : (e : Event) (w r : Walked Event) → SomePoint w → left_of 0 (or_else (service n) e w r) ≡ Err Spent
  unfolding left_of or_else after
  nothing_left e (found k es) r h = grind (arith, nat_tests)
  nothing_left e (endless k) (found j es) h = grind (arith, nat_tests)
  nothing_left e (endless k) (endless j) h = grind (arith, nat_tests)
  nothing_left e (endless k) (stopped j) h = grind (arith, nat_tests)
  nothing_left e (stopped k) r h = grind (arith, nat_tests)

  -- a child that is too deep
  pub too_deep : (b : ℕ) (e : Event) (r : Walked Event) → 0 < b → left_of b (or_else (service n) e (stopped 0) r) ≡ Err Deep
  unfolding left_of or_else
  too_deep b e r h = grind (arith, nat_tests)

  -- what a child comes to, for what its choice comes to

  pub step_found : (b l k : ℕ) (e : Event) (w r : Walked Event) → left_of b w ≡ an_end l k → left_of b (or_else (service n) e w r) ≡ an_end l (k + 1)
  unfolding left_of or_else
  step_found b l k e (found j es) r h = grind (arith, nat_tests)
  step_found b l k e (endless j) r h = grind (arith, nat_tests)
  step_found b l k e (stopped j) r h = grind (arith, nat_tests)

  -- where a child has no end, its walk has none within the budget
  none_is : (b l : ℕ) (w : Walked Event) → left_of b w ≡ no_end l → (j : ℕ) × (w ≡ endless j) × (j ≤ b) × (l ≡ b - j)
  unfolding left_of
  none_is b l (found j es) h = grind (arith, nat_tests)
  none_is b l (endless j) h = grind (arith, nat_tests)
  none_is b l (stopped j) h = grind (arith, nat_tests)

  after_left : (b k : ℕ) (r : Walked Event) → k ≤ b → left_of b (after (service n) k r) ≡ left_of (b - k) r
  unfolding left_of after
  after_left b k (found j es) h = grind (arith, nat_tests)
  after_left b k (endless j) h = grind (arith, nat_tests)
  after_left b k (stopped j) h = grind (arith, nat_tests)

  after_room : (b k : ℕ) (r : Walked Event) (room : List ℕ) → k ≤ b → room_after b (after (service n) k r) room ≡ room_after (b - k) r room
  unfolding room_after after
  after_room b k (found j es) room h = grind (arith, nat_tests)
  after_room b k (endless j) room h = refl
  after_room b k (stopped j) room h = refl

  pub step_none : (b l : ℕ) (e : Event) (w r : Walked Event) → left_of b w ≡ no_end l → left_of b (or_else (service n) e w r) ≡ left_of l r
  unfolding or_else
  step_none b l e w r h =
      let c = none_is b l w h in
      ap (λ (x : Walked Event). left_of b (or_else (service n) e x r)) c.1 ∙ after_left b c.0 r c.2 ∙ ap (λ (x : ℕ). left_of x r) (sym c.3)

  pub step_none_room : (b l : ℕ) (e : Event) (w r : Walked Event) (room : List ℕ) → left_of b w ≡ no_end l
      → room_after b (or_else (service n) e w r) room ≡ room_after l r room
  unfolding or_else
  step_none_room b l e w r room h =
      let c = none_is b l w h in
      ap (λ (x : Walked Event). room_after b (or_else (service n) e x r) room) c.1 ∙ after_room b c.0 r room c.2 ∙ ap (λ (x : ℕ). room_after x r room) (sym c.3)

  -- what stops a child stops its choice
  pub step_stopped : (b : ℕ) (stop : Stop) (e : Event) (w r : Walked Event) → left_of b w ≡ Err stop → left_of b (or_else (service n) e w r) ≡ Err stop
  unfolding left_of or_else
  step_stopped b stop e (found j es) r h = grind (arith, nat_tests)
  step_stopped b stop e (endless j) r h = grind (arith, nat_tests)
  step_stopped b stop e (stopped j) r h = grind (arith, nat_tests)

-- ---- the room

-- whatever comes but an end, the room is as it was
abbrev pub Endless : Result Seen Stop → Type 0
Endless (Ok s) = s.events ≡ None
Endless (Err stop) = Unit {0}

pub room_kept : (b : ℕ) (w : Walked Event) (room : List ℕ) → Endless (left_of b w) → room_after b w room ≡ room
unfolding left_of room_after
room_kept b (found k es) room h = grind (arith, nat_tests)
room_kept b (endless k) room h = refl
room_kept b (stopped k) room h = refl

-- an end's events behind one more
pub room_found : (n b l k : ℕ) (e : Event) (w r : Walked Event) (room : List ℕ) → left_of b w ≡ an_end l k → 2 ≤ length room
    → event_bytes e ++ drop 2 (take 2 room ++ room_after b w (drop 2 room)) ≡ room_after b (or_else (service n) e w r) room
unfolding left_of room_after or_else laid_in laid
room_found n b l k e (found j es) r [] h m = absurd (omega arith)
room_found n b l k e (found j es) r (u ∷ []) h m = absurd (omega arith)
room_found n b l k e (found j es) r (u ∷ v ∷ room) h m = go (leb j b) h
  where
    go : (t : Bool) → cond t (an_end (b - j) (length es)) (Err Spent) ≡ an_end l k
        → event_bytes e ++ cond t (laid es ++ drop (2 * length es) room) room ≡ cond t ((event_bytes e ++ laid es) ++ drop (2 * suc (length es)) (u ∷ v ∷ room)) (u ∷ v ∷ room)
    go true g =
        let q : 2 * suc (length es) ≡ 2 + 2 * length es = omega arith in
        ap (λ (d : List ℕ). event_bytes e ++ (laid es ++ d)) (drop-drop (2 * length es) 2 (u ∷ v ∷ room) ∙ ap (λ (i : ℕ). drop i (u ∷ v ∷ room)) (sym q))
        ∙ sym (append_assoc (event_bytes e) (laid es) (drop (2 * suc (length es)) (u ∷ v ∷ room)))
    go false g = absurd cc
room_found n b l k e (endless j) r room h m = grind (arith, nat_tests)
room_found n b l k e (stopped j) r room h m = grind (arith, nat_tests)
