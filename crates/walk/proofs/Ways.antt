-- Each way out of a choice: what it hands back and what it leaves in the room are what the definition says.
-- Assumes nothing.
use mathlib.Core.Bool.{cond}
use mathlib.Core.List.{List, ◌++◌, append-nil}
use mathlib.Core.Path.{◌≡◌, refl, sym, ap, ap₂, ◌∙◌, subst}
use Prim.Native.Nat.{ℕ, ◌+◌, ◌-◌, ◌/◌, ◌≤◌, ◌<◌, ◌^◌}
use native.Mathlib.Nat.{le_of_eq}
use native.Mathlib.Omega.{arith}
use Rattle.std.proofs.lemmas.Bool.Decides.{nat_tests}
use Rattle.std.proofs.Common.{Some, None, Result, Ok, Err}
use lib.Dec.{eqb}
use lib.ListN.{length, take, drop, length-drop, take-append-drop, drop_of_length-le}
use lib.Seq.{take_all}
use borrow.Rule.Slice.PartMut.{same_len_mid}
use Rattle.marks.specs.Sets.{remove, lowest}
use Rattle.marks.proofs.Laws.{remove_less, lowest_below, has_lowest}
use Rattle.model.proofs.Sound.{found_within}
use Rattle.model.specs.Walk.{Walked, found, endless, stopped, or_else, tried, walked}
use Rattle.model.specs.Model.{service, then}
use Rattle.model.specs.declared.State.{State}
use Rattle.model.specs.declared.Observation.{Observation}
use Rattle.model.specs.declared.Event.{Event}
use Rattle.records.specs.Records.{record_at, observation_of, observations}
use Rattle.walk.specs.Choices.{event_of, slot, choices_in}
use Rattle.walk.specs.Steps.{event_bytes, an_end, no_end, left_of, room_after, deeper}
use Rattle.walk.proofs.Left.{an_end_is, no_end_is, nothing_left, too_deep, step_found, step_none, step_none_room, step_stopped, Endless, room_kept, room_found}
use Rattle.walk.proofs.Visits.{deeper_some, none_to_try, none_at_end, left_none, lowest_tried, child_walk, child_deep}
use Rattle.walk.specs.declared.Seen.{Seen}
use Rattle.walk.specs.declared.Stop.{Stop}
use Rattle.walk.specs.declared.Stop.TheVariants.{Spent, Deep}

-- ---- parts of a slice, to its end

pub to_end : (xs : List ℕ) (a : ℕ) → take (length xs - a) (drop a xs) ≡ drop a xs
to_end xs a = take_all (length xs - a) (drop a xs) (le_of_eq (length-drop a xs))

-- a part to the end, put back
pub put_back : (xs ys : List ℕ) (a : ℕ) → take a xs ++ (ys ++ drop (length xs - a) (drop a xs)) ≡ take a xs ++ ys
put_back xs ys a =
    ap (λ (l : List ℕ). take a xs ++ (ys ++ l)) (drop_of_length-le (drop a xs) (le_of_eq (length-drop a xs))) ∙ ap (λ (l : List ℕ). take a xs ++ l) (append-nil ys)

-- ---- what trying the choices of a set comes to

abbrev pub trying : ℕ → State → ℕ → List ℕ → List ℕ → Walked Event
trying n s set body room = tried (service n) (deeper n (length room / 2) s) (choices_in set (observations body))

-- what is handed back, and what the room then is
abbrev pub Hands : ℕ → Walked Event → List ℕ → Result Seen Stop → List ℕ → Type 0
Hands b w room seen last = record { result : seen ≡ left_of b w; room : last ≡ room_after b w room }

-- whatever a walk comes to is handed back
hand : (b : ℕ) (w x : Walked Event) (room : List ℕ) (seen : Result Seen Stop) (last : List ℕ) → w ≡ x → left_of b x ≡ seen → last ≡ room_after b x room → Hands b w room seen last
hand b w x room seen last e g h = record { result = sym (ap (left_of b) e ∙ g); room = h ∙ ap (λ (y : Walked Event). room_after b y room) (sym e) }

-- no end comes back: the room is as it was
hand_endless : (b : ℕ) (w x : Walked Event) (room : List ℕ) (seen : Result Seen Stop) → w ≡ x → Endless seen → left_of b x ≡ seen → Hands b w room seen room
hand_endless b w x room seen e q g = hand b w x room seen room e g (sym (room_kept b x room (subst Endless (sym g) q)))

-- the walk of a choice's child
abbrev pub child : ℕ → State → ℕ → List ℕ → List ℕ → Walked Event
child n s pick body room = deeper n (length room / 2) s (slot pick (observation_of (record_at body 0)) (observations (drop 12 body)))

-- A choice's child has been visited: what that handed back, and what it left of its part of the room. What is left to try
-- are the other choices.
pub record Visited (n b set : ℕ) (s : State) (body room : List ℕ) (pick : ℕ) (seen : Result Seen Stop) (last : List ℕ) : Type 0 where
  pub room_left : 2 ≤ length room
  pub whole : trying n s set body room ≡ or_else (service n) (event_of pick (observation_of (record_at body 0))) (child n s pick body room) (trying n s (remove 64 set pick) body room)
  pub is_seen : seen ≡ left_of b (child n s pick body room)
  pub is_last : last ≡ room_after b (child n s pick body room) (drop 2 room)

module _ (n b set : ℕ) (s : State) (body room : List ℕ) where
  -- nothing to try
  nothing_tried : trying n s set body room ≡ endless 0 → Hands b (trying n s set body room) room (no_end b) room
  unfolding room_after
  nothing_tried h = record { result = left_none b ∙ ap (left_of b) (sym h); room = ap (λ (w : Walked Event). room_after b w room) (sym h) }

  pub at_end : length body < 12 → Hands b (trying n s set body room) room (no_end b) room
  at_end h = nothing_tried (none_at_end n (length room / 2) set s body h)

  pub no_choice : set ≡ 0 → Hands b (trying n s set body room) room (no_end b) room
  no_choice h = nothing_tried (none_to_try n (length room / 2) set s (observations body) h)

  module _ (long : 12 ≤ length body) (fits : set < 2 ^ 64) (some : set ≡ 0 → ⊥) where
    first_then_rest : trying n s set body room
        ≡ or_else (service n) (event_of (lowest 64 set) (observation_of (record_at body 0))) (child n s (lowest 64 set) body room) (trying n s (remove 64 set (lowest 64 set)) body room)
    first_then_rest = lowest_tried n (length room / 2) set s body long fits (omega arith)

    -- the event of the lowest choice, and the walk of the others
    first : Event
    first = event_of (lowest 64 set) (observation_of (record_at body 0))

    rest : Walked Event
    rest = trying n s (remove 64 set (lowest 64 set)) body room

    pub budget_spent : b ≡ 0 → Hands b (trying n s set body room) room (Err Spent) room
    unfolding first rest
    budget_spent z =
        hand_endless b _ _ room (Err Spent) first_then_rest tt
        (ap (λ (x : ℕ). left_of x (or_else (service n) first (child n s (lowest 64 set) body room) rest)) z
        ∙ nothing_left n first (child n s (lowest 64 set) body room) rest (deeper_some n (length room / 2) s _))

    pub no_room : (b ≡ 0 → ⊥) → length room < 2 → Hands b (trying n s set body room) room (Err Deep) room
    unfolding first rest
    no_room z m =
        hand_endless b _ _ room (Err Deep) first_then_rest tt
        (ap (λ (w : Walked Event). left_of b (or_else (service n) first w rest)) (child_deep n s _ room m) ∙ too_deep n b first rest (omega arith))

    -- the child of the lowest choice has been visited, in the part of the room behind two bytes
    pub visited : (b ≡ 0 → ⊥) → 2 ≤ length room → (pick skip : ℕ) (next : State) (seen : Result Seen Stop) (last : List ℕ)
        → pick ≡ lowest 64 set → next ≡ then s (event_of pick (observation_of (record_at body 0))) → skip ≡ cond (eqb pick 0) 12 0
        → seen ≡ left_of (b - 1 + 1) (walked (service n) (length (take (length room - 2) (drop 2 room)) / 2) next (observations (take (length body - skip) (drop skip body))))
        → last ≡ room_after (b - 1 + 1) (walked (service n) (length (take (length room - 2) (drop 2 room)) / 2) next (observations (take (length body - skip) (drop skip body)))) (take (length room - 2) (drop 2 room))
        → Visited n b set s body room pick seen last
    visited left room_left pick skip next seen last is_pick is_next is_skip seen_is last_is =
        let counted : b - 1 + 1 ≡ b = omega arith in
        let the_child : walked (service n) (length (take (length room - 2) (drop 2 room)) / 2) next (observations (take (length body - skip) (drop skip body))) ≡ child n s pick body room =
        rw (to_end room 2, to_end body skip, is_next) (sym (child_walk n pick skip s body room long room_left is_skip)) in
        record {
          room_left = room_left;
          whole = first_then_rest ∙ ap (λ (x : ℕ). or_else (service n) (event_of x (observation_of (record_at body 0))) (child n s x body room) (trying n s (remove 64 set x) body room)) (sym is_pick);
          is_seen = seen_is ∙ ap₂ left_of counted the_child;
          is_last = last_is ∙ rw (counted, the_child, to_end room 2);
        }

module _ (n b set : ℕ) (s : State) (body room : List ℕ) (pick : ℕ) (seen : Result Seen Stop) (last : List ℕ) (v : Visited n b set s body room pick seen last) where
  -- the whole room after the visit
  abbrev after_visit : List ℕ
  after_visit = take 2 room ++ (last ++ drop (length room - 2) (drop 2 room))

  put : after_visit ≡ take 2 room ++ room_after b (child n s pick body room) (drop 2 room)
  put = put_back room last 2 ∙ ap (λ (l : List ℕ). take 2 room ++ l) v.is_last

  same_room : Endless seen → after_visit ≡ room
  same_room q = put ∙ ap (λ (l : List ℕ). take 2 room ++ l) (room_kept b (child n s pick body room) (drop 2 room) (subst Endless v.is_seen q)) ∙ take-append-drop 2 room

  pub end_found : (e : Seen) (k : ℕ) (bytes : List ℕ) → seen ≡ Ok e → e.events ≡ Some k → bytes ≡ event_bytes (event_of pick (observation_of (record_at body 0)))
      → Hands b (trying n s set body room) room (an_end e.left (k + 1)) (bytes ++ drop 2 after_visit)
  end_found e k bytes is_ok is_end is_bytes =
      let c = sym v.is_seen ∙ is_ok ∙ an_end_is e k is_end in
      hand b _ _ room _ _ v.whole (step_found n b e.left k _ _ _ c)
      (ap₂ (λ (bs r : List ℕ). bs ++ drop 2 r) is_bytes put ∙ room_found n b e.left k _ _ _ room c v.room_left)

  pub others_tried : (e : Seen) (others : ℕ) (final_seen : Result Seen Stop) (final : List ℕ) → seen ≡ Ok e → e.events ≡ None → others ≡ remove 64 set pick
      → Hands e.left (trying n s others body after_visit) after_visit final_seen final → Hands b (trying n s set body room) room final_seen final
  others_tried e others final_seen final is_ok is_none q h =
      let is = is_ok ∙ no_end_is e is_none in
      let c = sym v.is_seen ∙ is in
      let r = same_room (subst Endless (sym is) refl) in
      let w : trying n s others body after_visit ≡ trying n s (remove 64 set pick) body room = ap₂ (λ (x : ℕ) (y : List ℕ). trying n s x body y) q r in
      hand b _ _ room final_seen final v.whole (step_none n b e.left _ _ _ c ∙ ap (left_of e.left) (sym w) ∙ sym h.result)
      (h.room ∙ ap₂ (room_after e.left) w r ∙ sym (step_none_room n b e.left _ _ _ room c))

  pub stopped_on : (stop : Stop) → seen ≡ Err stop → Hands b (trying n s set body room) room (Err stop) after_visit
  stopped_on stop e =
      let g = hand_endless b _ _ room (Err stop) v.whole tt (step_stopped n b stop _ _ _ (sym v.is_seen ∙ e)) in
      record { result = g.result; room = same_room (subst Endless (sym e) tt) ∙ g.room }

-- no choice is left after a child without an end, whose answer is handed back
pub nothing_more : (n set : ℕ) (s : State) (body room : List ℕ) (v : Seen) → v.events ≡ None → set ≡ 0
    → Hands v.left (trying n s set body room) room (Ok v) room
nothing_more n set s body room v is_none z =
    let h = no_choice n v.left set s body room z in
    record { result = no_end_is v is_none ∙ h.result; room = h.room }

-- ---- choices fall at each further choice

-- the set without its lowest is smaller
pub fewer : (set pick rest : ℕ) → set < 2 ^ 64 → (set ≡ 0 → ⊥) → pick ≡ lowest 64 set → rest ≡ remove 64 set pick → rest < set
fewer set pick rest b h p r =
    let l : 0 < set = omega arith in
    rw (r, p) (remove_less 64 set (lowest 64 set) (lowest_below 64 set b l) (has_lowest 64 set b l))

-- the number of events is that of a room's pairs at most
pub events_few : (n d b l k : ℕ) (s : State) (obs : List Observation) (seen : Result Seen Stop) → seen ≡ left_of b (walked (service n) d s obs) → seen ≡ an_end l k → k ≤ d
unfolding left_of
events_few n d b l k s obs seen e g = go (walked (service n) d s obs) refl (sym e ∙ g)
  where
    go : (w : Walked Event) → walked (service n) d s obs ≡ w → left_of b w ≡ an_end l k → k ≤ d
    go (found j es) q h = let few = found_within (service n) d s obs j es q in grind (arith, nat_tests)
    go (endless j) q h = grind (arith, nat_tests)
    go (stopped j) q h = grind (arith, nat_tests)

-- ---- lengths

pub part_length : (xs : List ℕ) (a : ℕ) → length (take (length xs - a) (drop a xs)) ≡ length xs - a
part_length xs a = ap length (to_end xs a) ∙ length-drop a xs

-- the room after a visit is as long as it was
pub same_after : (room last : List ℕ) → length last ≡ length (take (length room - 2) (drop 2 room))
    → length (take 2 room ++ (last ++ drop (length room - 2) (drop 2 room))) ≡ length room
same_after room last h = same_len_mid 2 (length room - 2) room last h
