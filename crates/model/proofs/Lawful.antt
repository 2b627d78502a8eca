-- The service of document 01 has what the theorems of the walk need, for any number of tablets.
-- Assumes nothing.
use mathlib.Core.Bool.{Bool, true, ◌&&◌}
use mathlib.Core.List.Memᴰ
use mathlib.Core.List.{[], ◌∷◌, map, Memᴰ}
use mathlib.Core.Logic.{◌⊎◌, inl, inr, ⊎_elim}
use mathlib.Core.Path.{◌≡◌, refl, sym, ap}
use Prim.Native.Nat.{ℕ, zero, suc, ◌≤◌}
use native.Mathlib.Decide.{dec_le}
use native.Mathlib.Omega.{arith}
use lib.Dec.{leb}
use borrow.Author.Tests.{leb-true}
use Rattle.model.specs.Walk.{Lawful, Once}
use Rattle.model.specs.Model.{seats, is_tablet, up_to, tablets, may, shown, hidden, service}
use Rattle.model.specs.declared.State.{State}
use Rattle.model.specs.declared.Observation.{Observation}
use Rattle.model.specs.declared.Event.{Event}
use Rattle.model.specs.declared.Event.TheVariants.{Observed, Up, Down}
use Rattle.model.proofs.Once.{once_append, once_map}
use Rattle.std.proofs.lemmas.Bool.{and_parts}

-- ---- the tablets from 1 to k

up_to_has : (k t : ℕ) → 1 ≤ t → t ≤ k → Memᴰ t (up_to k)
unfolding up_to
up_to_has zero t l h = absurd (omega arith)
up_to_has (suc k) t l h =
    elim (dec_le t k) [
      | yes g ↦ Memᴰ.append_left (suc k ∷ []) (up_to_has k t l g)
      | no g ↦ Memᴰ.append_right (up_to k) (Memᴰ.head (omega arith))
    ]

up_to_below : (k t : ℕ) → Memᴰ t (up_to k) → t ≤ k
unfolding up_to
up_to_below zero t m = absurd (Memᴰ.not-nil m)
up_to_below (suc k) t m =
    ⊎_elim (λ h. let g = up_to_below k t h in omega arith) (λ h. let e = Memᴰ.eq_of_singleton h in omega arith)
    (Memᴰ.append_cases (up_to k) m)

up_to_once : (k : ℕ) → Once (up_to k)
unfolding up_to
up_to_once zero = tt
up_to_once (suc k) =
    once_append (up_to k) (suc k ∷ []) (up_to_once k) (λ m. Memᴰ.not-nil m, tt)
    (λ t m h. let g = up_to_below k t m in let e = Memᴰ.eq_of_singleton h in omega arith)

there : (n t : ℕ) (b : Bool) → (is_tablet n t && b) ≡ true → Memᴰ t (tablets n)
unfolding is_tablet tablets
there n t b h =
    let q = and_parts (is_tablet n t) b h in
    let r = and_parts (leb 1 t) (leb t (seats n)) q.0 in
    up_to_has (seats n) t (leb-true 1 t r.0) (leb-true t (seats n) r.1)

-- ---- the hidden events

hidden_unseen : (n : ℕ) (e : Event) → Memᴰ e (hidden n) → shown e ≡ []
unfolding hidden shown
hidden_unseen n e m =
    ⊎_elim (λ h. ap shown (sym (Memᴰ.of_map Up (tablets n) h).2)) (λ h. ap shown (sym (Memᴰ.of_map Down (tablets n) h).2))
    (Memᴰ.append_cases (map Up (tablets n)) m)

hidden_once : (n : ℕ) → Once (hidden n)
unfolding hidden tablets
hidden_once n =
    once_append (map Up (tablets n)) (map Down (tablets n))
    (once_map Up (λ x y h. cc) (tablets n) (up_to_once (seats n)))
    (once_map Down (λ x y h. cc) (tablets n) (up_to_once (seats n)))
    (λ e m h.
    let a = (Memᴰ.of_map Up (tablets n) m).2 in
    let b = (Memᴰ.of_map Down (tablets n) h).2 in
    cc)

known : (n : ℕ) (s : State) (e : Event) → may n s e ≡ true → ((o : Observation) × (e ≡ Observed o)) ⊎ Memᴰ e (hidden n)
unfolding may hidden
known n s (Observed o) h = inl (o, refl)
known n s (Up t) h = inr (Memᴰ.append_left (map Down (tablets n)) (Memᴰ.map Up (there n t _ h)))
known n s (Down t) h = inr (Memᴰ.append_right (map Up (tablets n)) (Memᴰ.map Down (there n t _ h)))

pub lawful : (n : ℕ) → Lawful (service n)
unfolding service shown
lawful n = record { seen = λ o. refl; unseen = hidden_unseen n; known = known n; once = hidden_once n }
