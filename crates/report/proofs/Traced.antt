-- The lines of a trace: what was said of it, and the events that stand in the room.
-- Assumes nothing.
use mathlib.Core.List.{List, [], ◌∷◌, ◌++◌, append-nil}
use mathlib.Core.Path.{◌≡◌, refl, sym, ap, ◌∙◌, subst}
use Prim.Native.Nat.{ℕ, ◌+◌, ◌-◌, ◌*◌, ◌≤◌}
use native.Mathlib.Omega.{arith}
use lib.ListN.{length, take, drop, length-append, length-take, length-drop}
use lib.Seq.{take_at}
use Rattle.model.specs.Walk.{Outcome, explained, unexplained, undecided, too_deep}
use Rattle.model.specs.Model.{outcome}
use Rattle.model.specs.declared.Event.{Event}
use Rattle.model.specs.declared.Event.TheVariants.{Observed, Up, Down}
use Rattle.model.specs.declared.Observation.TheVariants.{Read, Write, Stabilize, Failed}
use Rattle.tracefile.specs.Refusals as R
use Rattle.tracefile.specs.File.{tablets_in, check_trace}
use Rattle.walk.specs.Steps.{laid, laid_in, outcome_in}
use Rattle.verdict.specs.declared.Verdict.{Verdict}
use Rattle.verdict.specs.declared.Verdict.TheVariants.{Explained, Unexplained, Undecided}
use Rattle.verdict.specs.declared.Refusal.{Refusal}
use Rattle.verdict.specs.declared.Refusal.TheVariants.{File, NoRoom, TooDeep}
use Rattle.std.proofs.Common.{Result, Ok, Err}
use Rattle.verdict.specs.Judged.{Said, explained_by, unexplained_in, undecided_at, refused, file_refusal, told, evening, said, judged, room_judged}
use Rattle.verdict.proofs.Calls.{depth_small}
use Rattle.verdict.proofs.Demands.{Ready, as_walked, room_as_walked, explained_only_with}
use Rattle.lines.specs.Text.{answer_text, events_text}
use Rattle.lines.specs.Put.{line_room, events_room}
use Rattle.lines.proofs.Putting.{Whole}
use Rattle.lines.proofs.Said.{answer_short}
use Rattle.lines.proofs.Events.{events_few}
use Rattle.report.specs.Printed.{budget, explanation_text, trace_text}
use Rattle.report.specs.Rooms.{room_size, explanation_room, trace_room, PutIn}
use Rattle.report.proofs.Parts.{line_in, in_rest, then_in, in_as}

-- an event has two bytes
pub length_laid : (es : List Event) → length (laid es) ≡ 2 * length es
unfolding laid
length_laid [] = refl
length_laid (Observed (Read t x) ∷ es) = omega (arith, length_laid es)
length_laid (Observed (Write t y x) ∷ es) = omega (arith, length_laid es)
length_laid (Observed (Stabilize x s) ∷ es) = omega (arith, length_laid es)
length_laid (Observed Failed ∷ es) = omega (arith, length_laid es)
length_laid (Up t ∷ es) = omega (arith, length_laid es)
length_laid (Down t ∷ es) = omega (arith, length_laid es)

-- ---- explained, or not

abbrev IsExplained : Said → Type 0
IsExplained (explained_by k m) = Unit {0}
IsExplained (unexplained_in k) = ⊥
IsExplained (undecided_at b) = ⊥
IsExplained (refused number place) = ⊥

refusal_explains_nothing : (a : R.Answer) → IsExplained (file_refusal a) → ⊥
refusal_explains_nothing R.accepted h = h
refusal_explains_nothing (R.refused number place) h = h

-- an answer of any case but the first
not_explained : (v : Result Verdict Refusal) → ((k m : ℕ) → v ≡ Ok (Explained k m) → ⊥) → IsExplained (told v) → ⊥
not_explained (Ok (Explained k m)) h i = h k m refl
not_explained (Ok (Unexplained k)) h i = i
not_explained (Ok (Undecided b)) h i = i
not_explained (Err (File r)) h i = refusal_explains_nothing (R.refusal r) i
not_explained (Err NoRoom) h i = i
not_explained (Err TooDeep) h i = i

-- an outcome of which something else is said has no second line
no_second_line : (o : Outcome Event) → (IsExplained (said o) → ⊥) → explanation_text o ≡ []
unfolding said explanation_text
no_second_line (explained k es) h = absurd (h tt)
no_second_line (unexplained k) h = refl
no_second_line (undecided b) h = refl
no_second_line too_deep h = refl

-- an explained one has the events that the room holds
second_line : (o : Outcome Event) (k m : ℕ) (zeros room : List ℕ) → explained_by k m ≡ said o → room ≡ outcome_in o zeros → length room ≡ length zeros
    → (2 * m ≤ length zeros) × (events_text (take (2 * m) room) ≡ explanation_text o)
unfolding said explanation_text outcome_in laid_in
second_line (explained j es) k m zeros room e g kept =
    let same : m ≡ length es = cc in
    let two = length_laid es in
    let l = ap length g ∙ length-append (laid es) (drop (2 * length es) zeros) in (
      omega (arith, length-drop (2 * length es) zeros),
      ap events_text (ap (λ (l : List ℕ). take (2 * m) l) g ∙ take_at (laid es) (drop (2 * length es) zeros) (2 * m) (omega arith)),
    )
second_line (unexplained j) k m zeros room e g kept = let z : ◌≡◌ {A = ℕ} 0 1 = cc in absurd (omega arith)
second_line (undecided b) k m zeros room e g kept = let z : ◌≡◌ {A = ℕ} 0 1 = cc in absurd (omega arith)
second_line too_deep k m zeros room e g kept = let z : ◌≡◌ {A = ℕ} 0 1 = cc in absurd (omega arith)

-- as many events as are laid in a room have room there
laid_there : (es : List Event) (m : ℕ) (zeros room : List ℕ) → length es ≡ m → room ≡ laid_in es zeros → length room ≡ length zeros → 2 * m ≤ length room
unfolding laid_in
laid_there es m zeros room count e kept =
    omega (arith, length_laid es, ap length e ∙ length-append (laid es) (drop (2 * length es) zeros), length-drop (2 * length es) zeros)

-- ---- the lines are put

module _ (f : List ℕ) (t : ℕ) (zeros room : List ℕ) (v : Result Verdict Refusal) (size : room_size ≡ length zeros)
    (says : told v ≡ judged f t budget (length zeros)) (leaves : room ≡ room_judged f t budget zeros) (kept : length room ≡ length zeros)
    (good : check_trace f t ≡ R.accepted) where
  ready : Ready f t zeros
  ready = record { good = good; enough = omega (arith, depth_small f t good) }

  said_so : told v ≡ said (outcome (tablets_in f) (evening f t) budget)
  said_so = says ∙ as_walked f t budget zeros ready

  pub one_line : (out : List ℕ) (next : ℕ) (last : List ℕ) → ((k m : ℕ) → v ≡ Ok (Explained k m) → ⊥)
      → Whole line_room (answer_text t (told v)) out next last → PutIn trace_room (trace_text f t) out 0 next last
  unfolding trace_text
  one_line out next last h p =
      let none = no_second_line (outcome (tablets_in f) (evening f t) budget) (λ i. not_explained v h (subst IsExplained (sym said_so) i)) in
      in_as trace_room out 0 next last
      (ap (answer_text t) said_so ∙ sym (append-nil _) ∙ ap (λ (l : List ℕ). answer_text t (said (outcome (tablets_in f) (evening f t) budget)) ++ l) (sym none))
      (line_in line_room trace_room (answer_text t (told v)) out next last (omega arith) (answer_short t (told v)) p)

  pub two_lines : (k m : ℕ) (out between : List ℕ) (middle count : ℕ) (copied : List ℕ) → v ≡ Ok (Explained k m)
      → Whole line_room (answer_text t (told v)) out middle between → middle ≤ length between
      → Whole (events_room (take (2 * m) room)) (events_text (take (2 * m) room)) (take (length between - middle) (drop middle between)) count copied
      → PutIn trace_room (trace_text f t) out 0 (middle + count) (take middle between ++ (copied ++ drop (length between - middle) (drop middle between)))
  unfolding trace_text
  two_lines k m out between middle count copied e p inside q =
      let s = second_line (outcome (tablets_in f) (evening f t) budget) k m zeros room (sym (ap told e) ∙ said_so) (leaves ∙ room_as_walked f t budget zeros ready) kept in
      let few : events_room (take (2 * m) room) ≤ explanation_room = rw length-take (omega (arith, s.0)) in
      then_in line_room explanation_room _ _ out between 0 middle (middle + count) _
      (in_as line_room out 0 middle between (ap (answer_text t) said_so)
      (line_in line_room line_room (answer_text t (told v)) out middle between (omega arith) (answer_short t (told v)) p))
      (in_rest explanation_room _ between middle count copied inside
      (in_as explanation_room (take (length between - middle) (drop middle between)) 0 count copied s.1
      (line_in (events_room (take (2 * m) room)) explanation_room (events_text (take (2 * m) room)) (take (length between - middle) (drop middle between)) count copied few (events_few (take (2 * m) room)) q)))

-- the events of an explanation stand in the room
pub events_there : (f : List ℕ) (t b k m : ℕ) (zeros room : List ℕ) (v : Result Verdict Refusal) → told v ≡ judged f t b (length zeros)
    → room ≡ room_judged f t b zeros → length room ≡ length zeros → v ≡ Ok (Explained k m) → 2 * m ≤ length room
events_there f t b k m zeros room v says leaves kept e =
    let held = explained_only_with f t b zeros k m (told v) room (record { says = says; leaves = leaves }) (ap told e) in
    laid_there held.0 m zeros room held.1.1.0 held.1.1.1 kept
