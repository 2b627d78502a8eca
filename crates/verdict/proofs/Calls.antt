-- Each way out of the call: what is said and what the room then is.
-- Assumes nothing.
use mathlib.Core.List.{List, [], ◌∷◌}
use mathlib.Core.Path.{◌≡◌, refl, sym, ap, ap₂, ◌∙◌}
use Prim.Native.Nat.{ℕ, ◌-◌, ◌*◌, ◌^◌, ◌≤◌, ◌<◌}
use native.Mathlib.Nat.{mul-le-mul, le_trans}
use native.Mathlib.Omega.{arith}
use Rattle.std.proofs.lemmas.Bool.Decides.{nat_tests}
use Rattle.std.proofs.Common.{Option, Some, None, Result, Ok, Err}
use lib.ListN.{length, drop, length-drop}
use lib.Seq.{length-take-le}
use Rattle.model.specs.Walk.{Walked, found, endless, stopped, cut}
use Rattle.model.specs.Model.{service, first_state, writes, depth, walk, outcome}
use Rattle.model.proofs.Sound.{found_within}
use Rattle.model.specs.declared.Observation.{Observation}
use Rattle.model.specs.declared.Observation.TheVariants.{Read, Write, Stabilize, Failed}
use Rattle.model.specs.declared.Event.{Event}
use Rattle.records.specs.Records.{observations}
use Rattle.tracefile.specs.Refusals as R
use Rattle.tracefile.specs.File.{tablets_in, offset_in, count_in, body_size, check_trace, asked}
use Rattle.tracefile.specs.declared.Refusal.{Refusal}
use Rattle.tracefile.specs.declared.Refusal.TheVariants.{Length, Edition, Tablets, Values, Bodies, Contents, BadRecord, Trace}
use Rattle.tracefile.proofs.Good.{there, asked_part, good_trace, good_file}
use Rattle.walk.specs.declared.Walked.{Walked as Told}
use Rattle.walk.specs.declared.Stop.{Stop}
use Rattle.walk.specs.declared.Stop.TheVariants.{Spent, Deep, NoRoom}
use Rattle.walk.specs.Steps.{first_end, none_in, answer_of, answered, room_answered}
use Rattle.walk.proofs.Whole.{observations_length}
use Rattle.verdict.specs.Judged.{Said, explained_by, unexplained_in, undecided_at, refused, file_refusal, evening, said, walked_in, unless_refused, judged, room_walked, room_unless, room_judged}

-- what is said, and the room
abbrev pub Says : List ℕ → ℕ → ℕ → List ℕ → Said → List ℕ → Type 0
Says f t b room what last = record { result : what ≡ judged f t b (length room); room : last ≡ room_judged f t b room }

-- ---- a refusal of the file or of the trace number

refusal_said : (r : Refusal) (next : Said) → unless_refused (R.refusal r) next ≡ file_refusal (R.refusal r)
unfolding unless_refused
refusal_said Length next = refl
refusal_said Edition next = refl
refusal_said Tablets next = refl
refusal_said Values next = refl
refusal_said Bodies next = refl
refusal_said (Contents p) next = refl
refusal_said (BadRecord p) next = refl
refusal_said Trace next = refl

refusal_keeps : (r : Refusal) (room next : List ℕ) → room_unless (R.refusal r) room next ≡ room
unfolding room_unless
refusal_keeps Length room next = refl
refusal_keeps Edition room next = refl
refusal_keeps Tablets room next = refl
refusal_keeps Values room next = refl
refusal_keeps Bodies room next = refl
refusal_keeps (Contents p) room next = refl
refusal_keeps (BadRecord p) room next = refl
refusal_keeps Trace room next = refl

pub file_refused : (f : List ℕ) (t b : ℕ) (room : List ℕ) (r : Refusal) → R.refusal r ≡ check_trace f t
    → Says f t b room (file_refusal (R.refusal r)) room
unfolding judged room_judged
file_refused f t b room r h = record {
  result = sym (ap (λ (a : R.Answer). unless_refused a (walked_in f t b (length room))) (sym h) ∙ refusal_said r (walked_in f t b (length room)));
  room = sym (ap (λ (a : R.Answer). room_unless a room (room_walked f t b room)) (sym h) ∙ refusal_keeps r room (room_walked f t b room));
}

-- ---- the walk's answer

-- what the walk's answer says
abbrev by_events : ℕ → Option ℕ → Said
by_events k (Some m) = explained_by k m
by_events k None = unexplained_in k

abbrev pub say : ℕ → Result Told Stop → Said
say b (Ok w) = by_events w.points w.events
say b (Err Spent) = undecided_at b
say b (Err Deep) = refused 10 0
say b (Err NoRoom) = refused 9 0

-- what a walk says, by its events
pub first_end_is : (w : Told) (k : ℕ) → w.events ≡ Some k → Ok w ≡ first_end w.points k
first_end_is w k h = ap (λ (e : Option ℕ). Ok (record { points = w.points; events = e })) h

pub none_in_is : (w : Told) → w.events ≡ None → Ok w ≡ none_in w.points
none_in_is w h = ap (λ (e : Option ℕ). Ok (record { points = w.points; events = e })) h

cut_said : (b : ℕ) (w : Walked Event) → say b (answer_of (cut b w)) ≡ said (cut b w)
unfolding cut answer_of said
cut_said b (found k es) = grind (arith, nat_tests)
cut_said b (endless k) = grind (arith, nat_tests)
cut_said b (stopped k) = grind (arith, nat_tests)

answer_said : (f : List ℕ) (t b room : ℕ) → say b (answered (tablets_in f) (evening f t) b room) ≡ walked_in f t b room
unfolding answered walked_in outcome
answer_said f t b room = let same = cut_said b (walk (tablets_in f) (evening f t)) in grind (arith, nat_tests)

pub walk_said : (f : List ℕ) (t b n : ℕ) (room body : List ℕ) (a known : Result Told Stop) (last : List ℕ) → check_trace f t ≡ R.accepted → n ≡ tablets_in f → body ≡ asked f t
    → a ≡ answered n (observations body) b (length room) → last ≡ room_answered n (observations body) b room → a ≡ known → Says f t b room (say b known) last
unfolding judged room_judged unless_refused room_unless room_walked room_answered
walk_said f t b n room body a known last c p q e g h = record {
  result = ap (say b) (sym h ∙ e ∙ ap₂ (λ (x : ℕ) (y : List ℕ). answered x (observations y) b (length room)) p q) ∙ answer_said f t b (length room)
      ∙ ap (λ (x : R.Answer). unless_refused x (walked_in f t b (length room))) (sym c);
  room = g ∙ ap₂ (λ (x : ℕ) (y : List ℕ). room_answered x (observations y) b room) p q ∙ ap (λ (x : R.Answer). room_unless x room (room_walked f t b room)) (sym c);
}

-- ---- the number of events is small

writes_few : (obs : List Observation) → writes obs ≤ length obs
unfolding writes
writes_few [] = omega arith
writes_few (Read t x ∷ obs) = let r = writes_few obs in omega arith
writes_few (Write t y x ∷ obs) = let r = writes_few obs in omega arith
writes_few (Stabilize x c ∷ obs) = let r = writes_few obs in omega arith
writes_few (Failed ∷ obs) = let r = writes_few obs in omega arith

pub depth_small : (f : List ℕ) (t : ℕ) → check_trace f t ≡ R.accepted → depth (tablets_in f) (evening f t) ≤ 2304
unfolding depth body_size
depth_small f t c =
    let w = there f t c in
    let n = (good_file f (good_trace f t c).0).of_head.tablets.1 in
    let d = length-drop (offset_in f (t - 1)) f in
    let l : length (asked f t) ≡ 12 * count_in f (t - 1) =
    ap length (asked_part f t c) ∙ length-take-le (body_size f (t - 1)) (drop (offset_in f (t - 1)) f) (omega (arith, w.within)) in
    let k = observations_length (asked f t) in
    let o : length (evening f t) ≤ 256 = omega (arith, w.few) in
    let ws : writes (evening f t) ≤ 256 = le_trans (writes_few (evening f t)) o in
    let p : tablets_in f * writes (evening f t) ≤ 8 * 256 = mul-le-mul n ws in
    omega arith

cut_few : (n b k m : ℕ) (obs : List Observation) (w : Walked Event) → walk n obs ≡ w → answer_of (cut b w) ≡ first_end k m → m ≤ depth n obs
unfolding cut answer_of walk
cut_few n b k m obs (found j es) e h = let few = found_within (service n) (depth n obs) (first_state n) obs j es e in grind (arith, nat_tests)
cut_few n b k m obs (endless j) e h = grind (arith, nat_tests)
cut_few n b k m obs (stopped j) e h = grind (arith, nat_tests)

answered_few : (n b k m room : ℕ) (obs : List Observation) → answered n obs b room ≡ first_end k m → m ≤ depth n obs
unfolding answered outcome
answered_few n b k m room obs h = let few = cut_few n b k m obs (walk n obs) refl in grind (arith, nat_tests)

pub events_small : (f : List ℕ) (t b n k m room : ℕ) (body : List ℕ) (a : Result Told Stop) → check_trace f t ≡ R.accepted → n ≡ tablets_in f → body ≡ asked f t
    → a ≡ answered n (observations body) b room → a ≡ first_end k m → m < 2 ^ 32
events_small f t b n k m room body a c p q e h =
    let g = answered_few (tablets_in f) b k m room (evening f t) (ap₂ (λ (x : ℕ) (y : List ℕ). answered x (observations y) b room) (sym p) (sym q) ∙ sym e ∙ h) in
    let d = depth_small f t c in
    omega arith

-- a good file has its head
pub second_byte : (f : List ℕ) (t : ℕ) → check_trace f t ≡ R.accepted → 1 < length f
second_byte f t c = let l = (good_file f (good_trace f t c).0).of_head.long in omega arith
