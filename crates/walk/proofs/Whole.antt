-- The whole walk: the writes of a body, the room that it needs, and the answer with what is left in the room.
-- Assumes nothing.
use mathlib.Core.Bool.{Bool, true, false, cond}
use mathlib.Core.List.{List, ◌∷◌, ◌++◌, append_assoc}
use mathlib.Core.Path.{◌≡◌, refl, sym, ap, ap₂, ◌∙◌, subst}
use Prim.Native.Nat.{ℕ, zero, suc, ◌+◌, ◌-◌, ◌*◌, ◌/◌, ◌≤◌, ◌<◌}
use native.Mathlib.Nat.{zero-add}
use native.Mathlib.Omega.{arith}
use Rattle.std.proofs.lemmas.Bool.Decides.{nat_tests}
use Rattle.std.proofs.Common.{Result, Ok, Err}
use Rattle.std.specs.List.{count_by}
use Rattle.std.proofs.lemmas.List.Sums.{sum_by-cons}
use Rattle.std.specs.Simd.{first_chunks}
use lib.Dec.{ltb}
use lib.ListN.{length, take, drop, length-drop, take-append-drop}
use lib.Seq.{drop-append-le, length-take-le}
use borrow.Author.Tests.{le-leb, ltb-false}
use Rattle.model.specs.Walk.{Walked, found, endless, stopped, tried, walked, Outcome, undecided, cut}
use Rattle.model.specs.Model.{service, first_state, writes, depth, walk, outcome}
use Rattle.model.proofs.Sound.{found_within, some_point}
use Rattle.model.proofs.Budget.{none_for_nothing}
use Rattle.model.specs.declared.State.{State}
use Rattle.model.specs.declared.Observation.{Observation}
use Rattle.model.specs.declared.Observation.TheVariants.{Read, Write, Stabilize, Failed}
use Rattle.model.specs.declared.Event.{Event}
use Rattle.records.specs.Records.{record_at, observation_of, observed, observations}
use Rattle.records.proofs.Parts.{record_part}
use Rattle.records.specs.declared.Record.{Record}
use Rattle.walk.specs.Rooms.{is_write}
use Rattle.walk.specs.Choices.{choices_in, Possible}
use Rattle.walk.specs.Steps.{laid, left_of, room_after, deeper, an_end, first_end, answer_of, outcome_in, answered, room_answered}
use Rattle.walk.proofs.Visits.{end_left, end_room, visit_left, visit_room}
use Rattle.walk.specs.declared.Seen.{Seen}
use Rattle.walk.specs.declared.Stop.{Stop}
use Rattle.walk.specs.declared.Walked.{Walked as Told}
use Rattle.walk.specs.declared.Stop.TheVariants.{Spent, NoRoom}

-- ---- the observations and the writes of a body

observed_length : (k : ℕ) (body : List ℕ) → length (observed k body) ≡ k
unfolding observed
observed_length zero body = refl
observed_length (suc k) body = ap suc (observed_length k (drop 12 body))

pub observations_length : (body : List ℕ) → length (observations body) ≡ length body / 12
unfolding observations
observations_length body = observed_length (length body / 12) body

one_write : (o : Observation) (obs : List Observation) → writes (o ∷ obs) ≡ cond (is_write o) 1 0 + writes obs
unfolding writes
one_write (Read t x) obs = sym (zero-add (writes obs))
one_write (Write t y x) obs = omega arith
one_write (Stabilize x c) obs = sym (zero-add (writes obs))
one_write Failed obs = sym (zero-add (writes obs))

-- whether 12 bytes say a WRITE
abbrev pub says_write : List ℕ → Bool
says_write bytes = is_write (observation_of (record_at bytes 0))

-- the writes among the observations are the chunks of the body that say one
pub writes_counted : (k : ℕ) (body : List ℕ) → 12 * k ≤ length body
    → count_by says_write (first_chunks 12 k body) ≡ writes (observed k body)
unfolding writes observed
writes_counted zero body h = refl
writes_counted (suc k) body h =
    let l = length-drop 12 body in
    sum_by-cons (λ (bytes : List ℕ). cond (says_write bytes) 1 0) (take 12 body) (first_chunks 12 k (drop 12 body))
    ∙ ap₂ (λ (t : Bool) (others : ℕ). cond t 1 0 + others)
    (ap (λ (r : Record). is_write (observation_of r)) (record_part body 0 (le-leb 12 (length body) (omega arith))))
    (writes_counted k (drop 12 body) (omega arith))
    ∙ sym (one_write (observation_of (record_at body 0)) (observed k (drop 12 body)))

-- ---- the answer

-- what is left of the budget, told as an answer
abbrev pub answer_by : ℕ → Result Seen Stop → Result Told Stop
answer_by b (Ok s) = Ok (record { points = b - s.left; events = s.events })
answer_by b (Err stop) = Err stop

pub told_by : (b : ℕ) (w : Walked Event) → answer_by b (left_of b w) ≡ answer_of (cut b w)
unfolding left_of cut answer_of
told_by b (found k es) = grind (arith, nat_tests)
told_by b (endless k) = grind (arith, nat_tests)
told_by b (stopped k) = grind (arith, nat_tests)

-- a part from the front, put back
front_back : (room : List ℕ) (m limit : ℕ) → m ≤ limit → limit ≤ length room → drop m (take limit room) ++ drop limit room ≡ drop m room
front_back room m limit h l =
    sym (drop-append-le m (take limit room) (drop limit room) (subst (λ (x : ℕ). m ≤ x) (sym (length-take-le limit room l)) h)) ∙ ap (drop m) (take-append-drop limit room)

-- the room with the part's last bytes in it
pub room_by : (b limit : ℕ) (w : Walked Event) (room : List ℕ) → limit ≤ length room → ((k : ℕ) (es : List Event) → w ≡ found k es → 2 * length es ≤ limit)
    → room_after b w (take limit room) ++ drop limit room ≡ outcome_in (cut b w) room
unfolding room_after cut outcome_in
room_by b limit (found k es) room h few =
    let kept = take-append-drop limit room in
    let later = front_back room (2 * length es) limit (few k es refl) h in
    let joined = append_assoc (laid es) (drop (2 * length es) (take limit room)) (drop limit room) in
    grind (arith, nat_tests)
room_by b limit (endless k) room h few = let kept = take-append-drop limit room in grind (arith, nat_tests)
room_by b limit (stopped k) room h few = let kept = take-append-drop limit room in grind (arith, nat_tests)

-- ---- the whole call

module _ (n budget : ℕ) (body room : List ℕ) (writes_in : ℕ) (counted : writes_in ≡ writes (observations body)) where
  abbrev obs : List Observation
  obs = observations body

  abbrev pub limit : ℕ
  limit = 2 * (length body / 12 + n * writes_in)

  is_depth : 2 * depth n obs ≡ limit
  unfolding depth
  is_depth = ap₂ (λ (t w : ℕ). 2 * (t + n * w)) (observations_length body) (sym counted)

  abbrev pub Done : Result Told Stop → List ℕ → Type 0
  Done answer last = record { result : answer ≡ answered n obs budget (length room); room : last ≡ room_answered n obs budget room }

  pub short : ltb (length room) limit ≡ true → Done (Err NoRoom) room
  unfolding answered room_answered
  short h = record { result = rw (is_depth, h); room = rw (is_depth, h) }

  module _ (enough : ltb (length room) limit ≡ false) where
    done : (answer : Result Told Stop) (last : List ℕ) → answer ≡ answer_of (outcome n obs budget) → last ≡ outcome_in (outcome n obs budget) room → Done answer last
    unfolding answered room_answered
    done answer last e g = record { result = rw (is_depth, enough) e; room = rw (is_depth, enough) g }

    pub no_budget : budget ≡ 0 → Done (Err Spent) room
    unfolding outcome answer_of outcome_in walk
    no_budget z =
        let c : cut budget (walk n obs) ≡ undecided 0 = ap (λ (b : ℕ). cut b (walk n obs)) z ∙ none_for_nothing (walk n obs) (some_point (service n) (depth n obs) (first_state n) obs) in
        done (Err Spent) room (ap answer_of (sym c)) (ap (λ (x : Outcome Event). outcome_in x room) (sym c))

    pub fits : limit ≤ length room
    fits = ltb-false (length room) limit enough

    from_first : (budget ≡ 0 → ⊥) → (seen : Result Seen Stop) (last : List ℕ)
        → seen ≡ left_of (budget - 1 + 1) (walked (service n) (length (take (limit - 0) (drop 0 room)) / 2) (first_state n) obs)
        → last ≡ room_after (budget - 1 + 1) (walked (service n) (length (take (limit - 0) (drop 0 room)) / 2) (first_state n) obs) (take (limit - 0) (drop 0 room))
        → Done (answer_by budget seen) (take 0 room ++ (last ++ drop (limit - 0) (drop 0 room)))
    unfolding outcome walk
    from_first z seen last e g =
        let b : budget - 1 + 1 ≡ budget = omega arith in
        let p : limit - 0 ≡ limit = omega arith in
        let d : length (take limit room) / 2 ≡ depth n obs = let l = length-take-le limit room fits in let q = is_depth in omega arith in
        let w : walked (service n) (length (take (limit - 0) room) / 2) (first_state n) obs ≡ walked (service n) (depth n obs) (first_state n) obs =
        ap (λ (x : ℕ). walked (service n) (length (take x room) / 2) (first_state n) obs) p ∙ ap (λ (x : ℕ). walked (service n) x (first_state n) obs) d in
        let last_is : last ≡ room_after budget (walked (service n) (depth n obs) (first_state n) obs) (take limit room) = g ∙ rw (b, w, p) in
        done (answer_by budget seen) (last ++ drop (limit - 0) room)
        (ap (answer_by budget) (e ∙ ap₂ left_of b w) ∙ told_by budget (walked (service n) (depth n obs) (first_state n) obs))
        (ap₂ (λ (x : List ℕ) (y : ℕ). x ++ drop y room) last_is p
        ∙ room_by budget limit (walked (service n) (depth n obs) (first_state n) obs) room fits
        (λ k es q. let f = found_within (service n) (depth n obs) (first_state n) obs k es q in let i = is_depth in omega arith))

    -- the root is an end
    pub root_end : (budget ≡ 0 → ⊥) → length body < 12 → Done (first_end 1 0) room
    root_end z h =
        let part = take (limit - 0) (drop 0 room) in
        let e = from_first z (an_end (budget - 1) 0) part (end_left n (length part / 2) (budget - 1) (first_state n) body h) (end_room n (length part / 2) (budget - 1) (first_state n) body part h) in
        let one : budget - (budget - 1) ≡ 1 = omega arith in
        record { result = ap (λ (x : ℕ). first_end x 0) (sym one) ∙ e.result; room = sym (take-append-drop (limit - 0) room) ∙ e.room }

    -- the root's choices have been tried
    pub root_tried : (budget ≡ 0 → ⊥) → 12 ≤ length body → (s : State) → s ≡ first_state n → (set : ℕ) → Possible n s (observation_of (record_at body 0)) set → (left : ℕ) → left ≡ budget - 1 → (seen known : Result Seen Stop) (last : List ℕ)
        → seen ≡ left_of left (tried (service n) (deeper n (length (take (limit - 0) (drop 0 room)) / 2) s) (choices_in set obs))
        → last ≡ room_after left (tried (service n) (deeper n (length (take (limit - 0) (drop 0 room)) / 2) s) (choices_in set obs)) (take (limit - 0) (drop 0 room))
        → seen ≡ known → Done (answer_by budget known) (take 0 room ++ (last ++ drop (limit - 0) (drop 0 room)))
    root_tried z long s q set p left m seen known last e g h =
        let part = take (limit - 0) (drop 0 room) in
        subst (λ (x : Result Seen Stop). Done (answer_by budget x) (take 0 room ++ (last ++ drop (limit - 0) (drop 0 room)))) h
        (from_first z seen last (e ∙ ap (λ (x : ℕ). left_of x (tried (service n) (deeper n (length part / 2) s) (choices_in set obs))) m ∙ visit_left n (length part / 2) set (budget - 1) s body long p ∙ ap (λ (x : State). left_of (budget - 1 + 1) (walked (service n) (length part / 2) x obs)) q)
        (g ∙ ap (λ (x : ℕ). room_after x (tried (service n) (deeper n (length part / 2) s) (choices_in set obs)) part) m ∙ visit_room n (length part / 2) set (budget - 1) s body part long p ∙ ap (λ (x : State). room_after (budget - 1 + 1) (walked (service n) (length part / 2) x obs) part) q))

-- what is left is no more than there was
abbrev Left : ℕ → Result Seen Stop → Type 0
Left b (Ok s) = s.left ≤ b
Left b (Err stop) = Unit {0}

left_few : (b : ℕ) (w : Walked Event) → Left b (left_of b w)
unfolding left_of
left_few b (found k es) = grind (arith, nat_tests)
left_few b (endless k) = grind (arith, nat_tests)
left_few b (stopped k) = grind (arith, nat_tests)

pub few_left : (b l : ℕ) (r : Result Seen Stop) (w : Walked Event) (s : Seen) → l ≤ b → r ≡ left_of l w → r ≡ Ok s → s.left ≤ b
few_left b l r w s few e g = let h : s.left ≤ l = subst (Left l) (sym e ∙ g) (left_few l w) in omega arith
