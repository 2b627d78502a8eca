-- What is true of the model and of its ordered walk, each with the words that it stands for. All but the last two hold of
-- any service, and are shown so in the files that this one cites.
-- Assumes nothing.
use mathlib.Core.List.{List, [], ◌∷◌, ◌++◌, Memᴰ}
use mathlib.Core.Logic.{◌↔◌}
use mathlib.Core.Path.{◌≡◌, refl}
use Prim.Native.Nat.{ℕ, ◌≤◌, ◌<◌}
use Rattle.model.specs.Walk.{found, endless, undecided, Once, Point, children, points, to_last, needed, Unstopped, Decided}
use Rattle.model.specs.Model.{first_state, service, hidden, depth, Explanation, ordered_walk, walk, outcome}
use Rattle.model.specs.declared.State.{State}
use Rattle.model.specs.declared.Observation.{Observation}
use Rattle.model.specs.declared.Event.{Event}
use Rattle.model.specs.declared.Event.TheVariants.{Up, Down}
use Rattle.model.proofs.Lawful.{lawful}
use Rattle.model.proofs.Literal.{literal}
use Rattle.model.proofs.Points as P
use Rattle.model.proofs.Sound as S
use Rattle.model.proofs.Traces as T
use Rattle.model.proofs.Budget as B

-- "Points are visited depth first, parent before children", counted from the root to the first end: the walk as it is
-- computed is the one in document 01's words.
pub walk_as_written : (n : ℕ) (obs : List Observation) → ordered_walk n obs ≡ walk n obs
unfolding ordered_walk walk
walk_as_written n obs = literal (service n) (lawful n) (depth n obs) (first_state n) obs

-- "A point is a sequence of possible events from the first state in which the trace has been used up to some place": what
-- stands in the preorder, within the depth, is exactly that, and no point goes on after an end.
pub exactly_the_points : (n d : ℕ) (obs : List Observation) (p : List Event)
    → Memᴰ p (points (service n) d (first_state n) obs) ↔ Point (service n) d (first_state n) obs p
exactly_the_points n d obs p =
    (P.is_point (service n) (lawful n) d (first_state n) obs p, P.point_is (service n) (lawful n) d (first_state n) obs p)

-- Each point is visited once.
pub each_point_once : (n d : ℕ) (obs : List Observation) → Once (points (service n) d (first_state n) obs)
each_point_once n d obs = P.points_once (service n) (lawful n) d (first_state n) obs

-- "If all observations are used, the point is an end and has no children."
pub ends_have_no_children : (n : ℕ) (s : State) → children (service n) s [] ≡ []
ends_have_no_children n s = P.end_childless (service n) (lawful n) s

-- "'Explained' comes only with a sequence … that the published model allows from its first state": a found end explains
-- the trace.
pub found_end_explains : (n : ℕ) (obs : List Observation) (k : ℕ) (es : List Event) → walk n obs ≡ found k es → Explanation n obs es
unfolding walk
found_end_explains n obs k es h = S.found_explains (service n) (lawful n) (depth n obs) (first_state n) obs k es h

-- "'Unexplained' comes only if no such sequence exists": where the walk ends with no end and no depth stop, no sequence
-- explains the trace, however long.
pub no_end_no_explanation : (n : ℕ) (obs : List Observation) (k : ℕ) → walk n obs ≡ endless k → (es : List Event) → Explanation n obs es → ⊥
unfolding walk
no_end_no_explanation n obs k h es x = S.endless_unexplained (service n) (lawful n) (depth n obs) (first_state n) obs k h es x

-- "'Undecided' exactly when the ordered walk needs more points than the budget": with no depth stop, more points needed is
-- undecided, and otherwise the result is decided.
pub undecided_exactly : (n : ℕ) (obs : List Observation) (b : ℕ) → Unstopped (walk n obs)
    → (b < needed (walk n obs) → outcome n obs b ≡ undecided b) × (needed (walk n obs) ≤ b → Decided (outcome n obs b))
unfolding outcome
undecided_exactly n obs b u = (B.spent b (walk n obs) u, B.decides b (walk n obs) u)

-- "Any larger budget repeats a decided result, explanation and point count included."
pub larger_budget_repeats : (n : ℕ) (obs : List Observation) (b c : ℕ) → b ≤ c → Decided (outcome n obs b) → outcome n obs c ≡ outcome n obs b
unfolding outcome
larger_budget_repeats n obs b c l d = B.repeats b c (walk n obs) l d

-- "A budget of 0 is always undecided."
pub no_budget_undecided : (n : ℕ) (obs : List Observation) → outcome n obs 0 ≡ undecided 0
unfolding outcome walk
no_budget_undecided n obs = B.none_for_nothing (walk n obs) (S.some_point (service n) (depth n obs) (first_state n) obs)

-- "A trace without an explanation still has none after further observations."
pub still_unexplained : (n : ℕ) (obs more : List Observation) → ((es : List Event) → Explanation n obs es → ⊥)
    → (es : List Event) → Explanation n (obs ++ more) es → ⊥
still_unexplained n obs more none es x = T.stays_unexplained (service n) (lawful n) (first_state n) obs more none es x

-- An explanation cut after the last observation is still one.
pub cut_short_explains : (n : ℕ) (obs : List Observation) (es : List Event) → Explanation n obs es → Explanation n obs (to_last (service n) es)
cut_short_explains n obs es x = T.still_explains (service n) (first_state n) obs es x

-- "UP at tablet 1, 2, and so on; DOWN at tablet 1, 2, and so on", spelled out for three tablets.
pub order_of_choices : hidden 3 ≡ Up 1 ∷ Up 2 ∷ Up 3 ∷ Down 1 ∷ Down 2 ∷ Down 3 ∷ []
unfolding hidden
order_of_choices = refl

-- No more than 8 tablets are there, and none for n = 0.
pub eight_at_most : (hidden 0 ≡ []) × (hidden 200 ≡ hidden 8)
unfolding hidden
eight_at_most = (refl, refl)
