-- Explanations of a shorter trace, and explanations cut short.
-- Assumes nothing.
use mathlib.Core.Bool.{Bool, true, ◌&&◌}
use mathlib.Core.List.{List, [], ◌∷◌, ◌++◌, nil≢cons, tail-eq_of_cons-eq, head-eq_of_cons-eq}
use mathlib.Core.Logic.{⊎_elim}
use mathlib.Core.Path.{◌≡◌, refl, sym, ap, ◌∙◌, subst}
use Rattle.model.specs.Walk.{Service, Lawful, Explains, possible, trace, unless_unseen, to_last}
use Rattle.std.proofs.lemmas.Bool.{and_parts}

module _ {S O E : Type 0} (𝓢 : Service S O E) where
  -- an event in front of an explanation
  onward : (s : S) (obs : List O) (e : E) (es : List E) → 𝓢.may s e ≡ true → Explains 𝓢 (𝓢.then s e) obs es → Explains 𝓢 s (𝓢.shown e ++ obs) (e ∷ es)
  unfolding possible trace
  onward s obs e es h x =
      record {
        each_possible = ap (λ (b : Bool). b && possible 𝓢 (𝓢.then s e) es) h ∙ x.each_possible;
        is_trace = ap (λ (l : List O). 𝓢.shown e ++ l) x.is_trace;
      }

  module _ (𝓛 : Lawful 𝓢) where
    -- what explains a trace explains, up to some place, each shorter one
    pub shorter : (es : List E) (s : S) (obs more : List O) → Explains 𝓢 s (obs ++ more) es → (fs : List E) × Explains 𝓢 s obs fs
    unfolding possible trace
    shorter [] s [] more x = ([], record { each_possible = refl; is_trace = refl })
    shorter [] s (o ∷ obs) more x = absurd (nil≢cons x.is_trace)
    shorter (e ∷ es) s [] more x = ([], record { each_possible = refl; is_trace = refl })
    shorter (e ∷ es) s (o ∷ obs) more x =
        let q = and_parts (𝓢.may s e) (possible 𝓢 (𝓢.then s e) es) x.each_possible in
        ⊎_elim
        (λ k.
        let sees : 𝓢.shown e ≡ k.0 ∷ [] = ap 𝓢.shown k.1 ∙ 𝓛.seen k.0 in
        let same : k.0 ∷ trace 𝓢 es ≡ o ∷ (obs ++ more) = ap (λ (l : List O). l ++ trace 𝓢 es) (sym sees) ∙ x.is_trace in
        let r = shorter es (𝓢.then s e) obs more (record { each_possible = q.1; is_trace = tail-eq_of_cons-eq same }) in
        (e ∷ r.0, subst (λ (l : List O). Explains 𝓢 s l (e ∷ r.0)) (ap (λ (l : List O). l ++ obs) sees ∙ ap (λ (y : O). y ∷ obs) (head-eq_of_cons-eq same)) (onward s obs e r.0 q.0 r.1)))
        (λ m.
        let hides = 𝓛.unseen e m in
        let r = shorter es (𝓢.then s e) (o ∷ obs) more (record { each_possible = q.1; is_trace = ap (λ (l : List O). l ++ trace 𝓢 es) (sym hides) ∙ x.is_trace }) in
        (e ∷ r.0, subst (λ (l : List O). Explains 𝓢 s l (e ∷ r.0)) (ap (λ (l : List O). l ++ o ∷ obs) hides) (onward s (o ∷ obs) e r.0 q.0 r.1)))
        (𝓛.known s e q.0)

    -- a trace with no explanation has none after further observations
    pub stays_unexplained : (s : S) (obs more : List O) → ((es : List E) → Explains 𝓢 s obs es → ⊥) → (es : List E) → Explains 𝓢 s (obs ++ more) es → ⊥
    stays_unexplained s obs more none es x = let r = shorter es s obs more x in none r.0 r.1

  cut_trace : (es : List E) → trace 𝓢 (to_last 𝓢 es) ≡ trace 𝓢 es
  unfolding to_last
  cut_trace [] = refl
  cut_trace (e ∷ es) = go (trace 𝓢 (e ∷ es)) refl (cut_trace es)
    where
      go : (obs : List O) → obs ≡ trace 𝓢 (e ∷ es) → trace 𝓢 (to_last 𝓢 es) ≡ trace 𝓢 es → trace 𝓢 (unless_unseen 𝓢 obs (e ∷ to_last 𝓢 es)) ≡ trace 𝓢 (e ∷ es)
      go [] h ih = h
      go (o ∷ obs) h ih = ap (λ (l : List O). 𝓢.shown e ++ l) ih

  cut_possible : (es : List E) (s : S) → possible 𝓢 s es ≡ true → possible 𝓢 s (to_last 𝓢 es) ≡ true
  unfolding to_last possible
  cut_possible [] s h = refl
  cut_possible (e ∷ es) s h = go (trace 𝓢 (e ∷ es)) (cut_possible es (𝓢.then s e) q.1)
    where
      q : (𝓢.may s e ≡ true) × (possible 𝓢 (𝓢.then s e) es ≡ true)
      q = and_parts (𝓢.may s e) (possible 𝓢 (𝓢.then s e) es) h

      go : (obs : List O) → possible 𝓢 (𝓢.then s e) (to_last 𝓢 es) ≡ true → possible 𝓢 s (unless_unseen 𝓢 obs (e ∷ to_last 𝓢 es)) ≡ true
      go [] ih = refl
      go (o ∷ obs) ih = ap (λ (b : Bool). b && possible 𝓢 (𝓢.then s e) (to_last 𝓢 es)) q.0 ∙ ih

  -- an explanation cut after the last observation is still one
  pub still_explains : (s : S) (obs : List O) (es : List E) → Explains 𝓢 s obs es → Explains 𝓢 s obs (to_last 𝓢 es)
  still_explains s obs es x = record { each_possible = cut_possible es s x.each_possible; is_trace = cut_trace es ∙ x.is_trace }
