-- The choices in a set: the lowest first, then those of the rest; and the set of possible choices holds a point's children.
-- Assumes nothing.
use mathlib.Core.Bool.{Bool, true, false, ◌&&◌, and-false}
use mathlib.Core.List.{List, [], ◌∷◌, ◌++◌, map, map-append, append-nil}
use mathlib.Core.Path.{◌≡◌, refl, sym, ap, ap₂, ◌∙◌}
use Prim.Native.Nat.{ℕ, zero, suc, ◌+◌, ◌-◌, ◌≤◌, ◌<◌, ◌^◌}
use native.Mathlib.Nat.{add-zero, add-suc, suc-add, zero-add}
use native.Mathlib.Decide.{dec_le}
use native.Mathlib.Omega.{arith}
use lib.Dec.{leb}
use borrow.Author.Tests.{lt-leb, ne_eqb}
use Rattle.marks.specs.Sets.{has, remove, lowest}
use Rattle.marks.proofs.Laws.{has_lowest, none_below_lowest, lowest_below, has_remove_same, has_remove_other, has_past}
use Rattle.model.specs.Walk.{Choice, kept, only_possible, choice, choices, children}
use Rattle.model.specs.Model.{service, may, hidden, tablets, seats, up_to, is_tablet}
use Rattle.model.specs.declared.State.{State}
use Rattle.model.specs.declared.Observation.{Observation}
use Rattle.model.specs.declared.Event.{Event}
use Rattle.model.specs.declared.Event.TheVariants.{Observed, Up, Down}
use Rattle.walk.specs.Choices.{event_of, slot, picked, choices_in, Possible}

module _ (o : Observation) (obs : List Observation) where
  -- ---- going through a set

  -- numbers that are not in the set are passed over
  passed : (set i k j : ℕ) → ((m : ℕ) → i ≤ m → m < i + j → has set m ≡ false) → picked set o obs i (j + k) ≡ picked set o obs (i + j) k
  unfolding picked kept
  passed set i k zero h = ap₂ (picked set o obs) (sym (add-zero i)) (zero-add k)
  passed set i k (suc j) h =
      ap (picked set o obs i) (suc-add j k)
      ∙ ap (λ (b : Bool). kept (service 0) b (slot i o obs) (picked set o obs (i + 1) (j + k))) (h i (omega arith) (omega arith))
      ∙ passed set (i + 1) k j (λ m a b. h m (omega arith) (omega arith))
      ∙ ap (λ (x : ℕ). picked set o obs x k) (next i j)
    where
      next : (i j : ℕ) → i + 1 + j ≡ i + suc j
      next i j = omega arith

  -- two sets with the same numbers from i on have the same choices from i on
  alike : (a b i k : ℕ) → ((m : ℕ) → i ≤ m → has a m ≡ has b m) → picked a o obs i k ≡ picked b o obs i k
  unfolding picked
  alike a b i zero h = refl
  alike a b i (suc k) h =
      ap₂ (λ (t : Bool) (cs : List (Choice Observation Event)). kept (service 0) t (slot i o obs) cs) (h i (omega arith))
      (alike a b (i + 1) k (λ m l. h m (omega arith)))

  -- the lowest of the set, and then the others
  pub lowest_first : (set : ℕ) → set < 2 ^ 64 → 0 < set
      → picked set o obs 0 64 ≡ slot (lowest 64 set) o obs ∷ picked (remove 64 set (lowest 64 set)) o obs 0 64
  unfolding picked kept
  lowest_first set b h =
      let p = lowest 64 set in
      let l = lowest_below 64 set b h in
      let r = 64 - suc p in
      let q : 64 ≡ p + suc r = omega arith in
      let z : 0 + p ≡ p = omega arith in
      ap (picked set o obs 0) q
      ∙ passed set 0 (suc r) p (λ m a c. none_below_lowest 64 set m (omega arith))
      ∙ ap (λ (x : ℕ). picked set o obs x (suc r)) z
      ∙ ap (λ (t : Bool). kept (service 0) t (slot p o obs) (picked set o obs (p + 1) r)) (has_lowest 64 set b h)
      ∙ ap (λ (cs : List (Choice Observation Event)). slot p o obs ∷ cs)
      (alike set (remove 64 set p) (p + 1) r (λ m a. sym (has_remove_other 64 set p m (λ e. omega arith)))
      ∙ sym (ap (picked (remove 64 set p) o obs 0) q
      ∙ passed (remove 64 set p) 0 (suc r) p (λ m a c. has_remove_other 64 set p m (λ e. omega arith) ∙ none_below_lowest 64 set m (omega arith))
      ∙ ap (λ (x : ℕ). picked (remove 64 set p) o obs x (suc r)) z
      ∙ ap (λ (t : Bool). kept (service 0) t (slot p o obs) (picked (remove 64 set p) o obs (p + 1) r)) (has_remove_same 64 set p l)))

  -- the empty set has none
  pub none_in_empty : (set : ℕ) → ((m : ℕ) → has set m ≡ false) → picked set o obs 0 64 ≡ []
  unfolding picked
  none_in_empty set h = passed set 0 0 64 (λ m a b. h m)

-- ---- the children of a point

-- consecutive numbers as choices
slots : Observation → List Observation → ℕ → ℕ → List (Choice Observation Event)
slots o obs i zero = []
slots o obs i (suc k) = slot i o obs ∷ slots o obs (i + 1) k

module _ (n : ℕ) (s : State) where
  possible_append : (xs ys : List (Choice Observation Event)) → only_possible (service n) s (xs ++ ys) ≡ only_possible (service n) s xs ++ only_possible (service n) s ys
  unfolding only_possible
  possible_append [] ys = refl
  possible_append (x ∷ xs) ys = go ((service n).may s x.event) (possible_append xs ys)
    where
      go : (b : Bool) → only_possible (service n) s (xs ++ ys) ≡ only_possible (service n) s xs ++ only_possible (service n) s ys
          → kept (service n) b x (only_possible (service n) s (xs ++ ys)) ≡ kept (service n) b x (only_possible (service n) s xs) ++ only_possible (service n) s ys
      go true h = ap (λ (l : List (Choice Observation Event)). x ∷ l) h
      go false h = h

  -- the choices of a set that holds the possible ones are the possible ones
  slots_picked : (o : Observation) (obs : List Observation) (set i k : ℕ) → ((m : ℕ) → i ≤ m → m < i + k → has set m ≡ may n s (event_of m o))
      → picked set o obs i k ≡ only_possible (service n) s (slots o obs i k)
  unfolding picked slots only_possible service
  slots_picked o obs set i zero h = refl
  slots_picked o obs set i (suc k) h =
      ap₂ (λ (b : Bool) (cs : List (Choice Observation Event)). kept (service n) b (slot i o obs) cs) (h i (omega arith) (omega arith))
      (slots_picked o obs set (i + 1) k (λ m a b. h m (omega arith) (omega arith)))

  -- tablets that are not there have no choice
  trimmed : (left : List Observation) (event : ℕ → Event) → ((t : ℕ) → seats n < t → may n s (event t) ≡ false) → (j : ℕ)
      → only_possible (service n) s (map (choice (service n) left) (map event (up_to (seats n + j))))
      ≡ only_possible (service n) s (map (choice (service n) left) (map event (up_to (seats n))))
  unfolding up_to only_possible service choice
  trimmed left event h zero = ap (λ (k : ℕ). only_possible (service n) s (map (choice (service n) left) (map event (up_to k)))) (add-zero (seats n))
  trimmed left event h (suc j) =
      ap (λ (k : ℕ). only_possible (service n) s (map (choice (service n) left) (map event (up_to k)))) (add-suc (seats n) j)
      ∙ ap (λ (l : List Event). only_possible (service n) s (map (choice (service n) left) l)) (map-append event (up_to (seats n + j)) (suc (seats n + j) ∷ []))
      ∙ ap (only_possible (service n) s) (map-append (choice (service n) left) (map event (up_to (seats n + j))) (event (suc (seats n + j)) ∷ []))
      ∙ possible_append (map (choice (service n) left) (map event (up_to (seats n + j)))) (choice (service n) left (event (suc (seats n + j))) ∷ [])
      ∙ ap (λ (b : Bool). only_possible (service n) s (map (choice (service n) left) (map event (up_to (seats n + j)))) ++ kept (service n) b (choice (service n) left (event (suc (seats n + j)))) []) (h (suc (seats n + j)) (omega arith))
      ∙ append-nil (only_possible (service n) s (map (choice (service n) left) (map event (up_to (seats n + j)))))
      ∙ trimmed left event h j

  no_tablet : (t : ℕ) (b : Bool) → seats n < t → (is_tablet n t && b) ≡ false
  unfolding is_tablet
  no_tablet t b h = ap (λ (x : Bool). leb 1 t && x && b) (lt-leb t (seats n) h) ∙ ap (λ (x : Bool). x && b) (and-false (leb 1 t))

  no_up : (t : ℕ) → seats n < t → may n s (Up t) ≡ false
  unfolding may
  no_up t h = no_tablet t _ h

  no_down : (t : ℕ) → seats n < t → may n s (Down t) ≡ false
  unfolding may
  no_down t h = no_tablet t _ h

  few_seats : seats n ≤ 8
  unfolding seats
  few_seats = omega arith

  all_slots : (o : Observation) (obs : List Observation) → slots o obs 0 64
      ≡ choice (service n) obs (Observed o) ∷ (map (choice (service n) (o ∷ obs)) (map Up (up_to 8)) ++ map (choice (service n) (o ∷ obs)) (map Down (up_to 55)))
  unfolding slots slot choice up_to
  all_slots o obs = refl

  -- numbers past the last tablet's DOWN are not in the set, and cannot happen
  each_number : (o : Observation) (set : ℕ) → Possible n s o set → (m : ℕ) → has set m ≡ may n s (event_of m o)
  unfolding event_of
  each_number o set p m =
      elim (dec_le (suc m) 17) [
        | yes l ↦ p.each m l
        | no l ↦
            (let f = few_seats in
            has_past 17 set m p.few (omega arith)
            ∙ sym (rw (ne_eqb m 0 (λ e. omega arith), lt-leb m 8 (omega arith)) (no_down (m - 8) (omega arith))))
      ]

  hidden_only : (left : List Observation)
      → only_possible (service n) s (map (choice (service n) left) (map Up (up_to 8)) ++ map (choice (service n) left) (map Down (up_to 55)))
      ≡ only_possible (service n) s (map (choice (service n) left) (hidden n))
  unfolding hidden
  hidden_only left =
      let f = few_seats in
      let a : 8 ≡ seats n + (8 - seats n) = omega arith in
      let b : 55 ≡ seats n + (55 - seats n) = omega arith in
      possible_append (map (choice (service n) left) (map Up (up_to 8))) (map (choice (service n) left) (map Down (up_to 55)))
      ∙ ap₂ (λ (x y : List (Choice Observation Event)). x ++ y)
      (ap (λ (k : ℕ). only_possible (service n) s (map (choice (service n) left) (map Up (up_to k)))) a ∙ trimmed left Up no_up (8 - seats n))
      (ap (λ (k : ℕ). only_possible (service n) s (map (choice (service n) left) (map Down (up_to k)))) b ∙ trimmed left Down no_down (55 - seats n))
      ∙ sym (possible_append (map (choice (service n) left) (map Up (tablets n))) (map (choice (service n) left) (map Down (tablets n))))
      ∙ ap (only_possible (service n) s) (sym (map-append (choice (service n) left) (map Up (tablets n)) (map Down (tablets n))))

  -- the set of possible choices holds the children of the point, in their order
  pub set_of_children : (o : Observation) (obs : List Observation) (set : ℕ) → Possible n s o set
      → choices_in set (o ∷ obs) ≡ children (service n) s (o ∷ obs)
  unfolding choices_in children choices service only_possible
  set_of_children o obs set p =
      slots_picked o obs set 0 64 (λ m a b. each_number o set p m)
      ∙ ap (only_possible (service n) s) (all_slots o obs)
      ∙ ap (λ (cs : List (Choice Observation Event)). kept (service n) (may n s (Observed o)) (choice (service n) obs (Observed o)) cs) (hidden_only (o ∷ obs))
