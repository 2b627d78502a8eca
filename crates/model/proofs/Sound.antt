-- A found end explains the trace, and where the walk ends with no end and no depth stop, nothing explains it.
-- Assumes nothing.
use mathlib.Core.Bool.{Bool, true, ◌&&◌}
use mathlib.Core.List.Memᴰ
use mathlib.Core.List.{List, [], ◌∷◌, ◌++◌, Memᴰ}
use mathlib.Core.Logic.{⊎_elim}
use mathlib.Core.Path.{◌≡◌, refl, sym, ap, ◌∙◌, subst}
use Prim.Native.Nat.{ℕ, zero, suc, ◌≤◌, ◌<◌, suc-le-suc}
use native.Mathlib.Omega.{arith}
use lib.ListN.{length}
use Rattle.std.proofs.lemmas.Bool.{and_parts}
use Rattle.model.specs.Walk.{Service, Lawful, Choice, Explains, possible, trace, children, Walked, found, endless, stopped, after, or_else, tried, visited, walked, needed}
use Rattle.model.proofs.Children.{Child, child, a_child}

module _ {S O E : Type 0} (𝓢 : Service S O E) where
  -- where trying the choices finds an end, one of them found it
  pub record Hit (f : Choice O E → Walked E) (cs : List (Choice O E)) (es : List E) : Type 0 where
    pub by : Choice O E
    pub points : ℕ
    pub rest : List E
    pub among : Memᴰ by cs
    pub finds : f by ≡ found points rest
    pub events : es ≡ by.event ∷ rest

  after_found : (j k : ℕ) (w : Walked E) (es : List E) → after 𝓢 j w ≡ found k es → (i : ℕ) × (w ≡ found i es)
  unfolding after
  after_found j k (found i es') es h = (i, cc)
  after_found j k (endless i) es h = cc
  after_found j k (stopped i) es h = cc

  tried_found : (f : Choice O E → Walked E) (cs : List (Choice O E)) (k : ℕ) (es : List E) → tried 𝓢 f cs ≡ found k es → Hit f cs es
  unfolding tried
  tried_found f [] k es h = cc
  tried_found f (c ∷ cs) k es h = go (λ i. tried_found f cs i es) (f c) refl h
    where
      later : Hit f cs es → Hit f (c ∷ cs) es
      later r = record { by = r.by; points = r.points; rest = r.rest; among = Memᴰ.tail r.among; finds = r.finds; events = r.events }

      go : ((i : ℕ) → tried 𝓢 f cs ≡ found i es → Hit f cs es) → (w : Walked E) → f c ≡ w → or_else 𝓢 c.event w (tried 𝓢 f cs) ≡ found k es → Hit f (c ∷ cs) es
      go ih (found j es') e g = record { by = c; points = j; rest = es'; among = Memᴰ.head refl; finds = e; events = cc }
      go ih (endless j) e g = let r = after_found j k (tried 𝓢 f cs) es g in later (ih r.0 r.1)
      go ih (stopped j) e g = cc

  -- where trying the choices finds no end and is not stopped, none of them does or is
  after_endless : (j k : ℕ) (w : Walked E) → after 𝓢 j w ≡ endless k → (i : ℕ) × (w ≡ endless i)
  unfolding after
  after_endless j k (found i es) h = cc
  after_endless j k (endless i) h = (i, refl)
  after_endless j k (stopped i) h = cc

  tried_endless : (f : Choice O E → Walked E) (cs : List (Choice O E)) (k : ℕ) → tried 𝓢 f cs ≡ endless k
      → (c : Choice O E) → Memᴰ c cs → (j : ℕ) × (f c ≡ endless j)
  unfolding tried
  tried_endless f [] k h c m = absurd (Memᴰ.not-nil m)
  tried_endless f (b ∷ cs) k h c m = go (λ i. tried_endless f cs i) (f b) refl h
    where
      go : ((i : ℕ) → tried 𝓢 f cs ≡ endless i → (x : Choice O E) → Memᴰ x cs → (j : ℕ) × (f x ≡ endless j))
          → (w : Walked E) → f b ≡ w → or_else 𝓢 b.event w (tried 𝓢 f cs) ≡ endless k → (j : ℕ) × (f c ≡ endless j)
      go ih (found j es) e g = cc
      go ih (endless j) e g =
          ⊎_elim (λ q. (j, ap f q ∙ e))
          (λ t. let r = after_endless j k (tried 𝓢 f cs) g in ih r.0 r.1 c t)
          (Memᴰ.cases_cons m)
      go ih (stopped j) e g = cc

  -- the root is a point
  after_some : (k : ℕ) (w : Walked E) → 0 < k → 0 < needed (after 𝓢 k w)
  unfolding after needed
  after_some k (found j es) h = omega arith
  after_some k (endless j) h = omega arith
  after_some k (stopped j) h = omega arith

  visited_some : (f : Choice O E → Walked E) (s : S) (obs : List O) → 0 < needed (visited 𝓢 f s obs)
  unfolding visited needed
  visited_some f s [] = omega arith
  visited_some f s (o ∷ obs) = after_some 1 (tried 𝓢 f (children 𝓢 s (o ∷ obs))) (omega arith)

  pub some_point : (d : ℕ) (s : S) (obs : List O) → 0 < needed (walked 𝓢 d s obs)
  unfolding walked
  some_point zero s obs = visited_some (λ c. stopped 0) s obs
  some_point (suc d) s obs = visited_some (λ c. walked 𝓢 d (𝓢.then s c.event) c.left) s obs

  -- a found end is within the depth
  visited_within : (f : Choice O E → Walked E) (d : ℕ) (s : S) (obs : List O) (k : ℕ) (es : List E)
      → ((c : Choice O E) (j : ℕ) (r : List E) → f c ≡ found j r → length r < d) → visited 𝓢 f s obs ≡ found k es → length es ≤ d
  unfolding visited
  visited_within f d s [] k es below h = let e : [] ≡ es = cc in subst (λ (l : List E). length l ≤ d) e (omega arith)
  visited_within f d s (o ∷ obs) k es below h =
      let a = after_found 1 k (tried 𝓢 f (children 𝓢 s (o ∷ obs))) es h in
      let r = tried_found f (children 𝓢 s (o ∷ obs)) a.0 es a.1 in
      subst (λ (l : List E). length l ≤ d) (sym r.events) (below r.by r.points r.rest r.finds)

  pub found_within : (d : ℕ) (s : S) (obs : List O) (k : ℕ) (es : List E) → walked 𝓢 d s obs ≡ found k es → length es ≤ d
  unfolding walked
  found_within zero s obs k es h =
      visited_within (λ c. stopped 0) 0 s obs k es (λ c j r q. cc) h
  found_within (suc d) s obs k es h =
      visited_within (λ c. walked 𝓢 d (𝓢.then s c.event) c.left) (suc d) s obs k es
      (λ c j r q. suc-le-suc (found_within d (𝓢.then s c.event) c.left j r q)) h

  module _ (𝓛 : Lawful 𝓢) where
    -- a child's explanation is one of its parent, with the child's event in front
    step : (s : S) (obs : List O) (c : Choice O E) (es : List E) → Child 𝓢 s obs c → Explains 𝓢 (𝓢.then s c.event) c.left es
        → Explains 𝓢 s obs (c.event ∷ es)
    unfolding possible trace
    step s obs c es k x =
        record {
          each_possible = ap (λ (b : Bool). b && possible 𝓢 (𝓢.then s c.event) es) k.happens ∙ x.each_possible;
          is_trace = ap (λ (l : List O). 𝓢.shown c.event ++ l) x.is_trace ∙ k.uses;
        }

    visited_found : (f : Choice O E → Walked E) (s : S) (obs : List O) (k : ℕ) (es : List E)
        → ((c : Choice O E) (j : ℕ) (r : List E) → f c ≡ found j r → Explains 𝓢 (𝓢.then s c.event) c.left r)
        → visited 𝓢 f s obs ≡ found k es → Explains 𝓢 s obs es
    unfolding visited possible trace
    visited_found f s [] k es below h =
        let e : [] ≡ es = cc in
        subst (λ (l : List E). Explains 𝓢 s [] l) e (record { each_possible = refl; is_trace = refl })
    visited_found f s (o ∷ obs) k es below h =
        let a = after_found 1 k (tried 𝓢 f (children 𝓢 s (o ∷ obs))) es h in
        let r = tried_found f (children 𝓢 s (o ∷ obs)) a.0 es a.1 in
        subst (λ (l : List E). Explains 𝓢 s (o ∷ obs) l) (sym r.events)
        (step s (o ∷ obs) r.by r.rest (child 𝓢 𝓛 s (o ∷ obs) r.by r.among) (below r.by r.points r.rest r.finds))

    -- a found end explains the trace
    pub found_explains : (d : ℕ) (s : S) (obs : List O) (k : ℕ) (es : List E) → walked 𝓢 d s obs ≡ found k es → Explains 𝓢 s obs es
    unfolding walked
    found_explains zero s obs k es h =
        visited_found (λ c. stopped 0) s obs k es (λ c j r q. cc) h
    found_explains (suc d) s obs k es h =
        visited_found (λ c. walked 𝓢 d (𝓢.then s c.event) c.left) s obs k es
        (λ c j r q. found_explains d (𝓢.then s c.event) c.left j r q) h

    -- an end is always found at once
    at_end : (d : ℕ) (s : S) → walked 𝓢 d s [] ≡ found 1 []
    unfolding walked visited
    at_end zero s = refl
    at_end (suc d) s = refl

    -- where the walk ends with no end, so does the walk of each child
    child_endless : (d : ℕ) (s : S) (obs : List O) (k : ℕ) → walked 𝓢 d s obs ≡ endless k → (c : Choice O E) → Memᴰ c (children 𝓢 s obs)
        → (i : ℕ) × (j : ℕ) × (walked 𝓢 i (𝓢.then s c.event) c.left ≡ endless j)
    unfolding walked visited
    child_endless zero s [] k h c m = cc
    child_endless zero s (o ∷ obs) k h c m =
        let a = after_endless 1 k (tried 𝓢 (λ x. stopped 0) (children 𝓢 s (o ∷ obs))) h in
        let r = tried_endless (λ x. stopped 0) (children 𝓢 s (o ∷ obs)) a.0 a.1 c m in
        cc
    child_endless (suc d) s [] k h c m = cc
    child_endless (suc d) s (o ∷ obs) k h c m =
        let f : Choice O E → Walked E = λ x. walked 𝓢 d (𝓢.then s x.event) x.left in
        let a = after_endless 1 k (tried 𝓢 f (children 𝓢 s (o ∷ obs))) h in
        let r = tried_endless f (children 𝓢 s (o ∷ obs)) a.0 a.1 c m in
        (d, r.0, r.1)

    none : (es : List E) (d : ℕ) (s : S) (obs : List O) (k : ℕ) → walked 𝓢 d s obs ≡ endless k → possible 𝓢 s es ≡ true → trace 𝓢 es ≡ obs → ⊥
    unfolding possible trace
    none [] d s obs k h p t =
        let e : walked 𝓢 d s [] ≡ endless k = ap (walked 𝓢 d s) t ∙ h in
        let g = at_end d s in
        cc
    none (e ∷ es) d s [] k h p t =
        let g = at_end d s in
        cc
    none (e ∷ es) d s (o ∷ obs) k h p t =
        let q = and_parts (𝓢.may s e) (possible 𝓢 (𝓢.then s e) es) p in
        let c = a_child 𝓢 𝓛 s (o ∷ obs) e (trace 𝓢 es) q.0 t (λ y. cc) in
        let r = child_endless d s (o ∷ obs) k h c.0 c.1 in
        none es r.0 (𝓢.then s c.0.event) c.0.left r.1 r.2
        (ap (λ (x : E). possible 𝓢 (𝓢.then s x) es) c.2 ∙ q.1) (sym c.3)

    -- where the walk ends with no end and no depth stop, no sequence explains the trace
    pub endless_unexplained : (d : ℕ) (s : S) (obs : List O) (k : ℕ) → walked 𝓢 d s obs ≡ endless k → (es : List E) → Explains 𝓢 s obs es → ⊥
    endless_unexplained d s obs k h es x = none es d s obs k h x.each_possible x.is_trace
