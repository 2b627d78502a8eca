-- The points in preorder are exactly the sequences of possible events that use the trace up to some place, within the
-- depth, and none goes on after an end; each stands there once.
-- Assumes nothing.
use mathlib.Core.Bool.{Bool, true, false, ◌&&◌}
use mathlib.Core.List.Memᴰ
use mathlib.Core.List.{List, [], ◌∷◌, ◌++◌, map, append_assoc, append_cancel_left, Memᴰ, head-eq_of_cons-eq, tail-eq_of_cons-eq}
use mathlib.Core.Logic.{⊎_elim}
use mathlib.Core.Path.{◌≡◌, refl, sym, ap, ◌∙◌, subst}
use Prim.Native.Nat.{ℕ, zero, suc, zero-le, suc-le-suc}
use native.Mathlib.Nat.{le_of_suc-le-suc, not-suc-le-zero}
use Rattle.model.specs.Walk.{Service, Lawful, Once, Choice, possible, trace, kept, only_possible, choice, choices, children, points, below, Point}
use Rattle.model.proofs.Children.{Child, child, a_child, possible_in}
use Rattle.model.proofs.Once.{once_append, once_map}
use Rattle.std.proofs.lemmas.Bool.{and_parts}

module _ {S O E : Type 0} (𝓢 : Service S O E) where
  events : List (Choice O E) → List E
  events cs = map (λ (c : Choice O E). c.event) cs

  -- ---- what stands below a point

  pub record Under (f : Choice O E → List (List E)) (cs : List (Choice O E)) (p : List E) : Type 0 where
    pub by : Choice O E
    pub rest : List E
    pub among : Memᴰ by cs
    pub point : Memᴰ rest (f by)
    pub begins : p ≡ by.event ∷ rest

  under : (f : Choice O E → List (List E)) (cs : List (Choice O E)) (p : List E) → Memᴰ p (below 𝓢 f cs) → Under f cs p
  unfolding below
  under f [] p m = absurd (Memᴰ.not-nil m)
  under f (c ∷ cs) p m =
      ⊎_elim
      (λ h.
      let r = Memᴰ.of_map (λ q. c.event ∷ q) (f c) h in
      record { by = c; rest = r.0; among = Memᴰ.head refl; point = r.1; begins = sym r.2 })
      (λ t.
      let r = under f cs p t in
      record { by = r.by; rest = r.rest; among = Memᴰ.tail r.among; point = r.point; begins = r.begins })
      (Memᴰ.append_cases (map (λ q. c.event ∷ q) (f c)) m)

  is_under : (f : Choice O E → List (List E)) (cs : List (Choice O E)) (c : Choice O E) (p : List E) → Memᴰ c cs → Memᴰ p (f c)
      → Memᴰ (c.event ∷ p) (below 𝓢 f cs)
  unfolding below
  is_under f [] c p m h = absurd (Memᴰ.not-nil m)
  is_under f (b ∷ cs) c p m h =
      ⊎_elim
      (λ e.
      Memᴰ.cast (ap (λ (x : Choice O E). x.event ∷ p) e)
      (Memᴰ.append_left (below 𝓢 f cs) (Memᴰ.map (λ q. b.event ∷ q) (subst (λ (x : Choice O E). Memᴰ p (f x)) e h))))
      (λ t. Memᴰ.append_right (map (λ q. b.event ∷ q) (f b)) (is_under f cs c p t h))
      (Memᴰ.cases_cons m)

  once_below : (f : Choice O E → List (List E)) (cs : List (Choice O E)) → ((c : Choice O E) → Once (f c)) → Once (events cs) → Once (below 𝓢 f cs)
  unfolding below events
  once_below f [] each h = tt
  once_below f (c ∷ cs) each h =
      once_append (map (λ q. c.event ∷ q) (f c)) (below 𝓢 f cs) (once_map (λ q. c.event ∷ q) (λ p q h. tail-eq_of_cons-eq h) (f c) (each c)) (once_below f cs each h.1)
      (λ p m t.
      let a = Memᴰ.of_map (λ q. c.event ∷ q) (f c) m in
      let b = under f cs p t in
      h.0 (Memᴰ.cast (head-eq_of_cons-eq (a.2 ∙ b.begins)) (Memᴰ.map (λ (x : Choice O E). x.event) b.among)))

  -- ---- the children's events differ

  once_kept : (b : Bool) (c : Choice O E) (cs : List (Choice O E)) → (Memᴰ c.event (events cs) → ⊥) → Once (events cs) → Once (events (kept 𝓢 b c cs))
  unfolding kept events
  once_kept true c cs h k = (h, k)
  once_kept false c cs h k = k

  once_possible : (s : S) (cs : List (Choice O E)) → Once (events cs) → Once (events (only_possible 𝓢 s cs))
  unfolding only_possible events
  once_possible s [] h = tt
  once_possible s (c ∷ cs) h =
      once_kept (𝓢.may s c.event) c (only_possible 𝓢 s cs)
      (λ m.
      let r = Memᴰ.of_map (λ (x : Choice O E). x.event) (only_possible 𝓢 s cs) m in
      h.0 (Memᴰ.cast (sym r.2) (Memᴰ.map (λ (x : Choice O E). x.event) (possible_in 𝓢 s cs r.0 r.1).0)))
      (once_possible s cs h.1)

  back : (obs : List O) (hs : List E) (e : E) → Memᴰ e (events (map (choice 𝓢 obs) hs)) → Memᴰ e hs
  unfolding events choice
  back obs [] e m = absurd (Memᴰ.not-nil m)
  back obs (h ∷ hs) e m = ⊎_elim (λ q. Memᴰ.head q) (λ t. Memᴰ.tail (back obs hs e t)) (Memᴰ.cases_cons m)

  once_choice : (obs : List O) (hs : List E) → Once hs → Once (events (map (choice 𝓢 obs) hs))
  unfolding events choice
  once_choice obs [] h = tt
  once_choice obs (e ∷ hs) h = (λ m. h.0 (back obs hs e m), once_choice obs hs h.1)

  module _ (𝓛 : Lawful 𝓢) where
    once_choices : (obs : List O) → Once (events (choices 𝓢 obs))
    unfolding choices events
    once_choices [] = tt
    once_choices (o ∷ obs) = (
      λ m.
          let u = 𝓛.unseen (𝓢.observed o) (back (o ∷ obs) 𝓢.hidden (𝓢.observed o) m) in
          let v = 𝓛.seen o in
          cc,
      once_choice (o ∷ obs) 𝓢.hidden 𝓛.once,
    )

    -- each point stands in the preorder once
    pub points_once : (d : ℕ) (s : S) (obs : List O) → Once (points 𝓢 d s obs)
    unfolding points children
    points_once zero s obs = (λ m. Memᴰ.not-nil m, tt)
    points_once (suc d) s obs = (
      λ m.
          let r = under (λ c. points 𝓢 d (𝓢.then s c.event) c.left) (children 𝓢 s obs) [] m in
          let b = r.begins in
          cc,
      once_below (λ c. points 𝓢 d (𝓢.then s c.event) c.left) (children 𝓢 s obs)
          (λ c. points_once d (𝓢.then s c.event) c.left) (once_possible s (choices 𝓢 obs) (once_choices obs)),
    )

    -- ---- what stands in the preorder is a point

    root : (d : ℕ) (s : S) (obs : List O) → Point 𝓢 d s obs []
    unfolding possible trace
    root d s obs =
        record {
          each_possible = refl;
          left = obs;
          used = refl;
          within = zero-le;
          no_end_before = λ q e r h t. none q e r h;
        }
      where
        none : (q : List E) (e : E) (r : List E) → [] ≡ q ++ e ∷ r → ⊥
        none [] e r h = cc
        none (x ∷ q) e r h = cc

    down : (d : ℕ) (s : S) (obs : List O) (c : Choice O E) (p : List E) → Child 𝓢 s obs c → Point 𝓢 d (𝓢.then s c.event) c.left p
        → Point 𝓢 (suc d) s obs (c.event ∷ p)
    unfolding possible trace
    down d s obs c p k x =
        record {
          each_possible = ap (λ (b : Bool). b && possible 𝓢 (𝓢.then s c.event) p) k.happens ∙ x.each_possible;
          left = x.left;
          used = append_assoc (𝓢.shown c.event) (trace 𝓢 p) x.left ∙ ap (λ (l : List O). 𝓢.shown c.event ++ l) x.used ∙ k.uses;
          within = suc-le-suc x.within;
          no_end_before = clear;
        }
      where
        clear : (q : List E) (e : E) (r : List E) → c.event ∷ p ≡ q ++ e ∷ r → trace 𝓢 q ≡ obs → ⊥
        clear [] e r h t = k.no_end (sym t)
        clear (y ∷ q) e r h t =
            x.no_end_before q e r (tail-eq_of_cons-eq h)
            (append_cancel_left (𝓢.shown c.event) (trace 𝓢 q) c.left
            (ap (λ (a : E). 𝓢.shown a ++ trace 𝓢 q) (head-eq_of_cons-eq h) ∙ t ∙ sym k.uses))

    pub is_point : (d : ℕ) (s : S) (obs : List O) (p : List E) → Memᴰ p (points 𝓢 d s obs) → Point 𝓢 d s obs p
    unfolding points
    is_point zero s obs p m = ⊎_elim (λ e. subst (Point 𝓢 0 s obs) (sym e) (root 0 s obs)) (λ t. absurd (Memᴰ.not-nil t)) (Memᴰ.cases_cons m)
    is_point (suc d) s obs p m =
        ⊎_elim (λ e. subst (Point 𝓢 (suc d) s obs) (sym e) (root (suc d) s obs))
        (λ t.
        let r = under (λ c. points 𝓢 d (𝓢.then s c.event) c.left) (children 𝓢 s obs) p t in
        subst (Point 𝓢 (suc d) s obs) (sym r.begins)
        (down d s obs r.by r.rest (child 𝓢 𝓛 s obs r.by r.among) (is_point d (𝓢.then s r.by.event) r.by.left r.rest r.point)))
        (Memᴰ.cases_cons m)

    -- ---- and every point stands there

    up : (d : ℕ) (s : S) (obs : List O) (e : E) (p : List E) (c : Choice O E) → c.event ≡ e → 𝓢.shown c.event ++ c.left ≡ obs
        → Point 𝓢 (suc d) s obs (e ∷ p) → (left : List O) → trace 𝓢 p ++ left ≡ c.left → Point 𝓢 d (𝓢.then s c.event) c.left p
    unfolding possible trace
    up d s obs e p c ev u x left h =
        record {
          each_possible = ap (λ (a : E). possible 𝓢 (𝓢.then s a) p) ev ∙ (and_parts (𝓢.may s e) (possible 𝓢 (𝓢.then s e) p) x.each_possible).1;
          left = left;
          used = h;
          within = le_of_suc-le-suc x.within;
          no_end_before =
              λ q a r b t. x.no_end_before (e ∷ q) a r (ap (λ (l : List E). e ∷ l) b)
              (ap (λ (y : E). 𝓢.shown y ++ trace 𝓢 q) (sym ev) ∙ ap (λ (l : List O). 𝓢.shown c.event ++ l) t ∙ u);
        }

    pub point_is : (d : ℕ) (s : S) (obs : List O) (p : List E) → Point 𝓢 d s obs p → Memᴰ p (points 𝓢 d s obs)
    unfolding points trace possible
    point_is zero s obs [] x = Memᴰ.head refl
    point_is zero s obs (e ∷ p) x = absurd (not-suc-le-zero x.within)
    point_is (suc d) s obs [] x = Memᴰ.head refl
    point_is (suc d) s obs (e ∷ p) x =
        let a = a_child 𝓢 𝓛 s obs e (trace 𝓢 p ++ x.left) (and_parts (𝓢.may s e) (possible 𝓢 (𝓢.then s e) p) x.each_possible).0
        (sym (append_assoc (𝓢.shown e) (trace 𝓢 p) x.left) ∙ x.used) (λ z. x.no_end_before [] e p refl (sym z)) in
        Memᴰ.cast (ap (λ (y : E). y ∷ p) (sym a.2))
        (Memᴰ.tail
        (is_under (λ c. points 𝓢 d (𝓢.then s c.event) c.left) (children 𝓢 s obs) a.0 p a.1
        (point_is d (𝓢.then s a.0.event) a.0.left p
        (up d s obs e p a.0 a.2 (child 𝓢 𝓛 s obs a.0 a.1).uses x x.left (sym a.3)))))

    -- an end has no children
    pub end_childless : (s : S) → children 𝓢 s [] ≡ []
    unfolding children
    end_childless s = refl
