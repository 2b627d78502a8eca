-- What the children of a point are: exactly the choices that use the trace from its front and that may happen.
-- Assumes nothing.
use mathlib.Core.Bool.{Bool, true, false}
use mathlib.Core.List.Memᴰ
use mathlib.Core.List.{List, [], ◌∷◌, ◌++◌, map, Memᴰ, tail-eq_of_cons-eq, head-eq_of_cons-eq}
use mathlib.Core.Logic.{◌⊎◌, inl, inr, ⊎_elim}
use mathlib.Core.Path.{◌≡◌, refl, sym, ap, ◌∙◌}
use Rattle.model.specs.Walk.{Service, Lawful, Choice, kept, only_possible, choice, choices, children}

module _ {S O E : Type 0} (𝓢 : Service S O E) where
  kept_in : (b : Bool) (c x : Choice O E) (cs : List (Choice O E)) → Memᴰ x (kept 𝓢 b c cs) → ((x ≡ c) × (b ≡ true)) ⊎ Memᴰ x cs
  unfolding kept
  kept_in true c x cs m = ⊎_elim (λ e. inl (e, refl)) (λ t. inr t) (Memᴰ.cases_cons m)
  kept_in false c x cs m = inr m

  kept_head : (b : Bool) (c x : Choice O E) (cs : List (Choice O E)) → x ≡ c → b ≡ true → Memᴰ x (kept 𝓢 b c cs)
  unfolding kept
  kept_head true c x cs e h = Memᴰ.head e
  kept_head false c x cs e h = cc

  kept_tail : (b : Bool) (c x : Choice O E) (cs : List (Choice O E)) → Memᴰ x cs → Memᴰ x (kept 𝓢 b c cs)
  unfolding kept
  kept_tail true c x cs m = Memᴰ.tail m
  kept_tail false c x cs m = m

  -- what is kept of the choices is among them and may happen
  pub possible_in : (s : S) (cs : List (Choice O E)) (x : Choice O E) → Memᴰ x (only_possible 𝓢 s cs)
      → Memᴰ x cs × (𝓢.may s x.event ≡ true)
  unfolding only_possible
  possible_in s [] x m = absurd (Memᴰ.not-nil m)
  possible_in s (c ∷ cs) x m =
      ⊎_elim (λ h. (Memᴰ.head h.0, ap (λ (y : Choice O E). 𝓢.may s y.event) h.0 ∙ h.1))
      (λ t. let r = possible_in s cs x t in (Memᴰ.tail r.0, r.1))
      (kept_in (𝓢.may s c.event) c x (only_possible 𝓢 s cs) m)

  in_possible : (s : S) (cs : List (Choice O E)) (x : Choice O E) → Memᴰ x cs → 𝓢.may s x.event ≡ true
      → Memᴰ x (only_possible 𝓢 s cs)
  unfolding only_possible
  in_possible s [] x m h = absurd (Memᴰ.not-nil m)
  in_possible s (c ∷ cs) x m h =
      ⊎_elim (λ e. kept_head (𝓢.may s c.event) c x (only_possible 𝓢 s cs) e (ap (λ (y : Choice O E). 𝓢.may s y.event) (sym e) ∙ h))
      (λ t. kept_tail (𝓢.may s c.event) c x (only_possible 𝓢 s cs) (in_possible s cs x t h))
      (Memᴰ.cases_cons m)

  -- a child uses the trace from its front, and may happen; an end has none
  pub record Child (s : S) (obs : List O) (c : Choice O E) : Type 0 where
    pub happens : 𝓢.may s c.event ≡ true
    pub uses : 𝓢.shown c.event ++ c.left ≡ obs
    pub no_end : obs ≡ [] → ⊥

  module _ (𝓛 : Lawful 𝓢) where
    -- a choice uses the trace from its front
    choice_uses : (obs : List O) (c : Choice O E) → Memᴰ c (choices 𝓢 obs) → (𝓢.shown c.event ++ c.left ≡ obs) × (obs ≡ [] → ⊥)
    unfolding choices
    choice_uses [] c m = absurd (Memᴰ.not-nil m)
    choice_uses (o ∷ obs) c m = (
      ⊎_elim
          (λ e. ap (λ (y : Choice O E). 𝓢.shown y.event ++ y.left) e ∙ ap (λ (l : List O). l ++ obs) (𝓛.seen o))
          (λ t.
          let h = Memᴰ.of_map (choice 𝓢 (o ∷ obs)) 𝓢.hidden t in
          ap (λ (y : Choice O E). 𝓢.shown y.event ++ y.left) (sym h.2) ∙ ap (λ (l : List O). l ++ o ∷ obs) (𝓛.unseen h.0 h.1))
          (Memᴰ.cases_cons {l = map (choice 𝓢 (o ∷ obs)) 𝓢.hidden} m),
      λ e. cc,
    )

    pub child : (s : S) (obs : List O) (c : Choice O E) → Memᴰ c (children 𝓢 s obs) → Child s obs c
    unfolding children
    child s obs c m =
        let r = possible_in s (choices 𝓢 obs) c m in
        let u = choice_uses obs c r.0 in
        record { happens = r.1; uses = u.0; no_end = u.1 }

    -- what may happen and uses the trace from its front is a child
    pub a_child : (s : S) (obs : List O) (e : E) (left : List O) → 𝓢.may s e ≡ true → 𝓢.shown e ++ left ≡ obs → (obs ≡ [] → ⊥)
        → (c : Choice O E) × Memᴰ c (children 𝓢 s obs) × (c.event ≡ e) × (c.left ≡ left)
    unfolding children choices choice
    a_child s [] e left h u z = absurd (z refl)
    a_child s (o ∷ obs) e left h u z =
        ⊎_elim
        (λ k.
        let same : k.0 ∷ left ≡ o ∷ obs = ap (λ (l : List O). l ++ left) (sym (𝓛.seen k.0)) ∙ ap (λ (x : E). 𝓢.shown x ++ left) (sym k.1) ∙ u in
        let ev : e ≡ 𝓢.observed o = k.1 ∙ ap 𝓢.observed (head-eq_of_cons-eq same) in
        (choice 𝓢 obs (𝓢.observed o), in_possible s (choices 𝓢 (o ∷ obs)) (choice 𝓢 obs (𝓢.observed o)) (Memᴰ.head refl) (ap (𝓢.may s) (sym ev) ∙ h), sym ev, sym (tail-eq_of_cons-eq same)))
        (λ m. (
          choice 𝓢 (o ∷ obs) e,
          in_possible s (choices 𝓢 (o ∷ obs)) (choice 𝓢 (o ∷ obs) e) (Memᴰ.tail (Memᴰ.map (choice 𝓢 (o ∷ obs)) m)) h,
          refl,
          sym u ∙ ap (λ (l : List O). l ++ left) (𝓛.unseen e m),
        ))
        (𝓛.known s e h)
