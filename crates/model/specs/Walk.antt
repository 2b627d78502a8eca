-- The ordered walk of a trace, over any service: document 01, 'The model' (possible sequences, their trace, explanations)
-- and 'The ordered walk' (points, children, preorder, the count, the depth stop and the budget). Nothing here knows what
-- a state or an event is.
use Prim.Native.Nat.{ℕ, zero, suc, ◌+◌, ◌≤◌}
use Rattle.std.specs.Prelude.{Bool, true, false, cond, ◌&&◌, ◌⊎◌, ◌≡◌, leb, ltb, eqb, length}
use mathlib.Core.List.{List, [], ◌∷◌, ◌++◌, map, Memᴰ}

-- A service: the table of events.
pub record Service (State Observation Event : Type 0) : Type 0 where
  -- whether an event may happen in a state, and the state that then holds
  pub may : State → Event → Bool
  pub then : State → Event → State
  -- what is observed of an event: one observation, or nothing where it is hidden
  pub shown : Event → List Observation
  -- an observation as an event; the hidden events in the order in which they are tried
  pub observed : Observation → Event
  pub hidden : List Event

-- each member of a list stands there once
abbrev pub Once : {A : Type 0} → List A → Type 0
Once [] = Unit {0}
Once (x ∷ xs) = (Memᴰ x xs → ⊥) × Once xs

-- What the theorems need of a service: an observation is seen as itself; what is hidden is not seen; whatever may happen
-- is an observation or one of the hidden events; and each hidden event is tried once.
pub record Lawful {S O E : Type 0} (𝓢 : Service S O E) : Type 0 where
  pub seen : (o : O) → 𝓢.shown (𝓢.observed o) ≡ o ∷ []
  pub unseen : (e : E) → Memᴰ e 𝓢.hidden → 𝓢.shown e ≡ []
  pub known : (s : S) (e : E) → 𝓢.may s e ≡ true → ((o : O) × (e ≡ 𝓢.observed o)) ⊎ Memᴰ e 𝓢.hidden
  pub once : Once 𝓢.hidden

-- A choice at a point: an event, and the observations that are then left of the trace.
pub record Choice (Observation Event : Type 0) : Type 0 where
  pub event : Event
  pub left : List Observation

-- What the whole walk comes to, with no budget: the first end, with the points up to and including it and its events;
-- no end, with all points; or the depth stop, with the points visited before it.
pub data Walked (Event : Type 0) : Type 0 where
  found : ℕ → List Event → Walked Event
  endless : ℕ → Walked Event
  stopped : ℕ → Walked Event

-- What the walk says within a budget.
pub data Outcome (Event : Type 0) : Type 0 where
  explained : ℕ → List Event → Outcome Event
  unexplained : ℕ → Outcome Event
  undecided : ℕ → Outcome Event
  too_deep : Outcome Event

module _ {S O E : Type 0} (𝓢 : Service S O E) where
  -- each event is possible in turn
  unfoldable pub possible : S → List E → Bool
  possible s [] = true
  possible s (e ∷ es) = 𝓢.may s e && possible (𝓢.then s e) es

  -- the trace of a sequence: hidden events are struck out
  unfoldable pub trace : List E → List O
  trace [] = []
  trace (e ∷ es) = 𝓢.shown e ++ trace es

  -- a sequence explains a trace from a state
  pub record Explains (s : S) (obs : List O) (es : List E) : Type 0 where
    pub each_possible : possible s es ≡ true
    pub is_trace : trace es ≡ obs

  -- a sequence cut after its last observation
  unfoldable pub unless_unseen : List O → List E → List E
  unless_unseen [] es = []
  unless_unseen (o ∷ obs) es = es

  unfoldable pub to_last : List E → List E
  unfolding trace unless_unseen
  to_last [] = []
  to_last (e ∷ es) = unless_unseen (trace (e ∷ es)) (e ∷ to_last es)

  -- the choices that are possible in a state, in their order
  unfoldable pub kept : Bool → Choice O E → List (Choice O E) → List (Choice O E)
  kept true c cs = c ∷ cs
  kept false c cs = cs

  unfoldable pub only_possible : S → List (Choice O E) → List (Choice O E)
  unfolding kept
  only_possible s [] = []
  only_possible s (c ∷ cs) = kept (𝓢.may s c.event) c (only_possible s cs)

  -- What can be tried where obs is left of the trace: nothing at an end; otherwise the next observation, and then the
  -- hidden events, which use up nothing.
  unfoldable pub choice : List O → E → Choice O E
  choice obs e = record { event = e; left = obs }

  unfoldable pub choices : List O → List (Choice O E)
  unfolding choice
  choices [] = []
  choices (o ∷ obs) = choice obs (𝓢.observed o) ∷ map (choice (o ∷ obs)) 𝓢.hidden

  -- The children of a point in state s where obs is left, in their order.
  unfoldable pub children : S → List O → List (Choice O E)
  unfolding only_possible choices
  children s obs = only_possible s (choices obs)

  -- The points in preorder, parent before children, from a point in state s where obs is left, as the sequences that lead
  -- on from it; those of at most d events.
  unfoldable pub below : (Choice O E → List (List E)) → List (Choice O E) → List (List E)
  below f [] = []
  below f (c ∷ cs) = map (λ p. c.event ∷ p) (f c) ++ below f cs

  unfoldable pub points : ℕ → S → List O → List (List E)
  unfolding below
  points zero s obs = [] ∷ []
  points (suc d) s obs = [] ∷ below (λ c. points d (𝓢.then s c.event) c.left) (children s obs)

  -- What a point is: a sequence of possible events from s that uses the trace up to some place, of at most d events, and
  -- that does not go on after an end.
  pub record Point (d : ℕ) (s : S) (obs : List O) (p : List E) : Type 0 where
    pub each_possible : possible s p ≡ true
    pub left : List O
    pub used : trace p ++ left ≡ obs
    pub within : length p ≤ d
    pub no_end_before : (q : List E) (e : E) (r : List E) → p ≡ q ++ e ∷ r → trace q ≡ obs → ⊥

  -- the walk goes through the points, counting, until the first end, or until it is about to visit a point of more than d events
  unfoldable pub counted : ℕ → List O → ℕ → List (List E) → Walked E
  unfolding trace
  counted d obs k [] = endless k
  counted d obs k (p ∷ ps) =
      let rest = counted d obs (suc k) ps in
      cond (ltb d (length p)) (stopped k)
      (cond (eqb (length (trace p)) (length obs)) (found (suc k) p) rest)

  -- document 01's words: the points counted in preorder
  unfoldable pub ordered : ℕ → S → List O → Walked E
  unfolding counted points
  ordered d s obs = counted d obs 0 (points (suc d) s obs)

  -- the same, computed: a point is visited, and then its children one after the other until one has found an end or is too deep
  unfoldable pub after : ℕ → Walked E → Walked E
  after k (found j es) = found (k + j) es
  after k (endless j) = endless (k + j)
  after k (stopped j) = stopped (k + j)

  unfoldable pub or_else : E → Walked E → Walked E → Walked E
  unfolding after
  or_else e (found k es) rest = found k (e ∷ es)
  or_else e (endless k) rest = after k rest
  or_else e (stopped k) rest = stopped k

  unfoldable pub tried : (Choice O E → Walked E) → List (Choice O E) → Walked E
  unfolding or_else
  tried f [] = endless 0
  tried f (c ∷ cs) =
      let rest = tried f cs in
      or_else c.event (f c) rest

  unfoldable pub visited : (Choice O E → Walked E) → S → List O → Walked E
  unfolding tried children after
  visited f s [] = found 1 []
  visited f s (o ∷ obs) = after 1 (tried f (children s (o ∷ obs)))

  unfoldable pub walked : ℕ → S → List O → Walked E
  unfolding visited
  walked zero s obs = visited (λ c. stopped 0) s obs
  walked (suc d) s obs = visited (λ c. walked d (𝓢.then s c.event) c.left) s obs

module _ {E : Type 0} where
  -- the points that the walk needs
  unfoldable pub needed : Walked E → ℕ
  needed (found k es) = k
  needed (endless k) = k
  needed (stopped k) = k

  -- no depth stop
  abbrev pub Unstopped : Walked E → Type 0
  Unstopped (found k es) = Unit {0}
  Unstopped (endless k) = Unit {0}
  Unstopped (stopped k) = ⊥

  -- the cut by the budget; the child that is too deep would be one point more
  unfoldable pub cut : ℕ → Walked E → Outcome E
  cut budget (found k es) = cond (leb k budget) (explained k es) (undecided budget)
  cut budget (endless k) = cond (leb k budget) (unexplained k) (undecided budget)
  cut budget (stopped k) = cond (ltb k budget) too_deep (undecided budget)

  -- a decided result
  abbrev pub Decided : Outcome E → Type 0
  Decided (explained k es) = Unit {0}
  Decided (unexplained k) = Unit {0}
  Decided (undecided b) = ⊥
  Decided too_deep = ⊥
