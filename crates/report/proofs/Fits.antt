-- The room for a whole text is enough for every file.
-- Assumes nothing.
use mathlib.Core.List.{List}
use mathlib.Core.Path.{◌≡◌, refl}
use Prim.Native.Nat.{ℕ, zero, suc, ◌+◌, ◌*◌, ◌≤◌}
use native.Mathlib.Omega.{arith}
use lib.ListN.{length, length-append}
use Rattle.model.specs.Walk.{Outcome, explained, unexplained, undecided, too_deep}
use Rattle.model.specs.Model.{service, first_state, depth, walk, outcome}
use Rattle.model.specs.declared.Event.{Event}
use Rattle.model.proofs.Sound.{found_within}
use Rattle.tracefile.specs.Refusals as R
use Rattle.tracefile.specs.File.{tablets_in, bodies_in, check, check_trace}
use Rattle.tracefile.proofs.Good.{good_file}
use Rattle.walk.specs.Steps.{laid}
use Rattle.verdict.specs.Judged.{evening, said}
use Rattle.verdict.proofs.Calls.{depth_small}
use Rattle.lines.proofs.Said.{refusal_short, answer_short}
use Rattle.lines.proofs.Events.{events_few}
use Rattle.report.specs.Printed.{budget, explanation_text, trace_text, traces_text, file_text, printed}
use Rattle.report.specs.Rooms.{explanation_room, trace_room, report_room}
use Rattle.report.proofs.Traced.{length_laid}
use Rattle.report.proofs.Listed.{is_there}
use Rattle.report.proofs.Never.{cut_found}

explanation_fits : (f : List ℕ) (t : ℕ) (o : Outcome Event) → check_trace f t ≡ R.accepted → outcome (tablets_in f) (evening f t) budget ≡ o
    → length (explanation_text o) ≤ explanation_room
unfolding explanation_text outcome walk
explanation_fits f t (explained k es) good e =
    let few = found_within (service (tablets_in f)) (depth (tablets_in f) (evening f t)) (first_state (tablets_in f)) (evening f t) k es
    (cut_found budget k es (walk (tablets_in f) (evening f t)) e) in
    omega (arith, few, depth_small f t good, events_few (laid es), length_laid es)
explanation_fits f t (unexplained k) good e = omega arith
explanation_fits f t (undecided b) good e = omega arith
explanation_fits f t too_deep good e = omega arith

trace_fits : (f : List ℕ) (t : ℕ) → check_trace f t ≡ R.accepted → length (trace_text f t) ≤ trace_room
unfolding trace_text
trace_fits f t good =
    rw length-append (omega (
      arith,
      answer_short t (said (outcome (tablets_in f) (evening f t) budget)),
      explanation_fits f t (outcome (tablets_in f) (evening f t) budget) good refl,
    ))

traces_fit : (f : List ℕ) (left t : ℕ) → check f ≡ R.accepted → 1 ≤ t → t + left ≤ bodies_in f + 1
    → length (traces_text f left t) ≤ left * trace_room
unfolding traces_text
traces_fit f zero t good low high = omega arith
traces_fit f (suc left) t good low high =
    rw length-append (omega (
      arith,
      trace_fits f t (is_there f t good low (omega arith)),
      traces_fit f left (t + 1) good (omega arith) (omega arith),
    ))

-- no file's text is longer
pub text_fits : (f : List ℕ) → length (printed f) ≤ report_room
unfolding printed file_text
text_fits f = go (check f) refl
  where
    go : (a : R.Answer) → check f ≡ a → length (file_text a (traces_text f (bodies_in f) 1)) ≤ report_room
    go R.accepted good =
        omega (arith, (good_file f good).of_head.bodies.1, traces_fit f (bodies_in f) 1 good (omega arith) (omega arith))
    go (R.refused number place) e = omega (arith, refusal_short number place)
