-- A visit and a choice, step by step: what each comes to in terms of what it calls.
-- Assumes nothing.
use mathlib.Core.Bool.{Bool, true, false, cond}
use mathlib.Core.List.{List, [], ◌∷◌}
use mathlib.Core.Path.{◌≡◌, refl, sym, ap, ◌∙◌}
use Prim.Native.Nat.{ℕ, zero, suc, ◌+◌, ◌/◌, ◌≤◌, ◌<◌, ◌^◌}
use native.Mathlib.Omega.{arith}
use Rattle.std.proofs.lemmas.Bool.Decides.{nat_tests}
use lib.Dec.{eqb}
use lib.ListN.{length, drop, length-drop}
use Rattle.marks.specs.Sets.{has, remove, lowest}
use Rattle.marks.proofs.Laws.{has_empty}
use Rattle.model.specs.Walk.{Choice, Walked, found, endless, stopped, after, or_else, tried, visited, walked, needed}
use Rattle.model.specs.Model.{service, then}
use Rattle.model.proofs.Sound.{some_point}
use Rattle.model.specs.declared.State.{State}
use Rattle.model.specs.declared.Observation.{Observation}
use Rattle.model.specs.declared.Event.{Event}
use Rattle.records.specs.Records.{record_at, observation_of, observed, observations}
use Rattle.walk.specs.Choices.{event_of, slot, choices_in, Possible}
use Rattle.walk.specs.Steps.{laid, laid_in, an_end, no_end, left_of, room_after, deeper}
use Rattle.walk.proofs.Left.{SomePoint, left_inside, room_inside}
use Rattle.walk.proofs.Sets.{lowest_first, none_in_empty, set_of_children}

-- ---- the observations of a body

pub observed_on : (body : List ℕ) → 12 ≤ length body → observations body ≡ observation_of (record_at body 0) ∷ observations (drop 12 body)
unfolding observations
observed_on body h =
    let l = length-drop 12 body in
    let q : length body / 12 ≡ suc (length (drop 12 body) / 12) = omega arith in
    ap (λ (k : ℕ). observed k body) q

pub observed_end : (body : List ℕ) → length body < 12 → observations body ≡ []
unfolding observations
observed_end body h =
    let q : length body / 12 ≡ 0 = omega arith in
    ap (λ (k : ℕ). observed k body) q

-- ---- the walk of a point and of its children

walked_is : (n d : ℕ) (s : State) (obs : List Observation) → walked (service n) d s obs ≡ visited (service n) (deeper n d s) s obs
unfolding walked deeper service
walked_is n zero s obs = refl
walked_is n (suc d) s obs = refl

some_of : (n : ℕ) (w : Walked Event) → 0 < needed w → SomePoint n w
unfolding needed
some_of n (found k es) h = h
some_of n (endless k) h = h
some_of n (stopped k) h = tt

pub deeper_some : (n d : ℕ) (s : State) (c : Choice Observation Event) → SomePoint n (deeper n d s c)
unfolding deeper
deeper_some n zero s c = tt
deeper_some n (suc d) s c = some_of n (walked (service n) d (then s c.event) c.left) (some_point (service n) d (then s c.event) c.left)

-- ---- a visit

-- at an end
pub end_left : (n d b : ℕ) (s : State) (body : List ℕ) → length body < 12 → an_end b 0 ≡ left_of (b + 1) (walked (service n) d s (observations body))
unfolding left_of visited
end_left n d b s body h = rw (observed_end body h, walked_is n d s []) (grind (arith, nat_tests))

pub end_room : (n d b : ℕ) (s : State) (body room : List ℕ) → length body < 12 → room ≡ room_after (b + 1) (walked (service n) d s (observations body)) room
unfolding room_after visited laid_in laid
end_room n d b s body room h = rw (observed_end body h, walked_is n d s []) (grind (arith, nat_tests))

-- at any other point, its possible choices are tried
walk_chooses : (n d set : ℕ) (s : State) (body : List ℕ) → 12 ≤ length body → Possible n s (observation_of (record_at body 0)) set
    → walked (service n) d s (observations body) ≡ after (service n) 1 (tried (service n) (deeper n d s) (choices_in set (observations body)))
unfolding visited
walk_chooses n d set s body h p =
    let o = observation_of (record_at body 0) in
    let obs = observations (drop 12 body) in
    walked_is n d s (observations body)
    ∙ ap (visited (service n) (deeper n d s) s) (observed_on body h)
    ∙ ap (λ (cs : List (Choice Observation Event)). after (service n) 1 (tried (service n) (deeper n d s) cs)) (sym (set_of_children n s o obs set p))
    ∙ ap (λ (l : List Observation). after (service n) 1 (tried (service n) (deeper n d s) (choices_in set l))) (sym (observed_on body h))

pub visit_left : (n d set b : ℕ) (s : State) (body : List ℕ) → 12 ≤ length body → Possible n s (observation_of (record_at body 0)) set
    → left_of b (tried (service n) (deeper n d s) (choices_in set (observations body))) ≡ left_of (b + 1) (walked (service n) d s (observations body))
visit_left n d set b s body h p = sym (ap (left_of (b + 1)) (walk_chooses n d set s body h p) ∙ left_inside n b (tried (service n) (deeper n d s) (choices_in set (observations body))))

pub visit_room : (n d set b : ℕ) (s : State) (body room : List ℕ) → 12 ≤ length body → Possible n s (observation_of (record_at body 0)) set
    → room_after b (tried (service n) (deeper n d s) (choices_in set (observations body))) room ≡ room_after (b + 1) (walked (service n) d s (observations body)) room
visit_room n d set b s body room h p =
    sym (ap (λ (w : Walked Event). room_after (b + 1) w room) (walk_chooses n d set s body h p) ∙ room_inside n b (tried (service n) (deeper n d s) (choices_in set (observations body))) room)

-- ---- trying choices

-- none left to try
pub none_to_try : (n d set : ℕ) (s : State) (obs : List Observation) → set ≡ 0 → tried (service n) (deeper n d s) (choices_in set obs) ≡ endless 0
unfolding tried choices_in
none_to_try n d set s [] h = refl
none_to_try n d set s (o ∷ obs) h =
    ap (tried (service n) (deeper n d s)) (none_in_empty o obs set (λ m. ap (λ (x : ℕ). has x m) h ∙ has_empty m))

pub none_at_end : (n d set : ℕ) (s : State) (body : List ℕ) → length body < 12 → tried (service n) (deeper n d s) (choices_in set (observations body)) ≡ endless 0
unfolding tried choices_in
none_at_end n d set s body h = ap (λ (obs : List Observation). tried (service n) (deeper n d s) (choices_in set obs)) (observed_end body h)

pub left_none : (b : ℕ) → no_end b ≡ left_of b (endless 0)
unfolding left_of
left_none b = grind (arith, nat_tests)

-- the lowest choice first, then the others
pub lowest_tried : (n d set : ℕ) (s : State) (body : List ℕ) → 12 ≤ length body → set < 2 ^ 64 → 0 < set
    → tried (service n) (deeper n d s) (choices_in set (observations body))
    ≡ or_else (service n) (event_of (lowest 64 set) (observation_of (record_at body 0)))
    (deeper n d s (slot (lowest 64 set) (observation_of (record_at body 0)) (observations (drop 12 body))))
    (tried (service n) (deeper n d s) (choices_in (remove 64 set (lowest 64 set)) (observations body)))
unfolding tried choices_in slot
lowest_tried n d set s body h b l =
    let o = observation_of (record_at body 0) in
    let obs = observations (drop 12 body) in
    ap (λ (x : List Observation). tried (service n) (deeper n d s) (choices_in set x)) (observed_on body h)
    ∙ ap (tried (service n) (deeper n d s)) (lowest_first o obs set b l)
    ∙ ap (λ (x : List Observation). or_else (service n) (event_of (lowest 64 set) o) (deeper n d s (slot (lowest 64 set) o obs)) (tried (service n) (deeper n d s) (choices_in (remove 64 set (lowest 64 set)) x))) (sym (observed_on body h))

-- the child's walk is the walk of the body that is left, with two bytes of the room less
pub child_walk : (n p skip : ℕ) (s : State) (body room : List ℕ) → 12 ≤ length body → 2 ≤ length room → skip ≡ cond (eqb p 0) 12 0
    → deeper n (length room / 2) s (slot p (observation_of (record_at body 0)) (observations (drop 12 body)))
    ≡ walked (service n) (length (drop 2 room) / 2) (then s (event_of p (observation_of (record_at body 0)))) (observations (drop skip body))
unfolding deeper slot
child_walk n p skip s body room h m q =
    let o = observation_of (record_at body 0) in
    let obs = observations (drop 12 body) in
    let l = length-drop 2 room in
    let e : length room / 2 ≡ suc (length (drop 2 room) / 2) = omega arith in
    ap (λ (k : ℕ). deeper n k s (slot p o obs)) e
    ∙ ap (λ (x : List Observation). walked (service n) (length (drop 2 room) / 2) (then s (event_of p o)) x) (rest (eqb p 0) ∙ ap (λ (k : ℕ). observations (drop k body)) (sym q))
  where
    rest : (t : Bool) → cond t (observations (drop 12 body)) (observation_of (record_at body 0) ∷ observations (drop 12 body)) ≡ observations (drop (cond t 12 0) body)
    rest true = refl
    rest false = sym (observed_on body h)

-- no room is too deep
pub child_deep : (n : ℕ) (s : State) (c : Choice Observation Event) (room : List ℕ) → length room < 2 → deeper n (length room / 2) s c ≡ stopped 0
unfolding deeper
child_deep n s c room h = let e : length room / 2 ≡ 0 = omega arith in ap (λ (k : ℕ). deeper n k s c) e
