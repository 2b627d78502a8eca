-- All traces of a good file, one after the other; and what is then printed.
-- Assumes nothing.
use mathlib.Core.Bool.{cond}
use mathlib.Core.List.{List, ◌++◌}
use mathlib.Core.Path.{◌≡◌, refl, sym, ap, ◌∙◌, subst}
use Prim.Native.Nat.{ℕ, suc, ◌+◌, ◌-◌, ◌*◌, ◌≤◌, ◌<◌}
use native.Mathlib.Omega.{arith}
use lib.ListN.{length, take, drop, take-append-drop}
use borrow.Author.Tests.{le-ltb}
use Rattle.tracefile.specs.Refusals as R
use Rattle.tracefile.specs.Refusals.{and_then}
use Rattle.tracefile.specs.File.{bodies_in, check, check_trace, outside}
use Rattle.tracefile.specs.declared.Refusal.{Refusal}
use Rattle.tracefile.specs.declared.Refusal.TheVariants.{Length, Edition, Tablets, Values, Bodies, Contents, BadRecord, Trace}
use Rattle.tracefile.proofs.Good.{good_file}
use Rattle.lines.specs.Text.{refused_text}
use Rattle.lines.specs.Put.{line_room, written, after}
use Rattle.lines.proofs.Putting.{Whole, stood, line_put}
use Rattle.report.specs.Printed.{trace_text, traces_text, file_text, printed}
use Rattle.report.specs.Rooms.{trace_room, report_room, PutIn}
use Rattle.report.proofs.Parts.{in_rest, rest_kept, then_in}

-- a trace with a number from 1 to k is there
pub is_there : (f : List ℕ) (t : ℕ) → check f ≡ R.accepted → 1 ≤ t → t ≤ bodies_in f → check_trace f t ≡ R.accepted
unfolding check_trace
is_there f t good low high =
    ap (λ (a : R.Answer). and_then a (cond (outside 1 (bodies_in f) t) (R.refused 8 0) R.accepted)) good
    ∙ rw (le-ltb t 1 low, le-ltb (bodies_in f) t high)

-- ---- one after the other

-- Whatever puts the traces from this one on, from here, puts all of them from the front.
pub record Reached (f : List ℕ) (traces : ℕ) (out₀ out : List ℕ) (at trace : ℕ) : Type 0 where
  pub within : trace ≤ traces + 1
  pub inside : at ≤ length out
  pub completes : check f ≡ R.accepted → traces ≡ bodies_in f → (next : ℕ) (last : List ℕ)
      → PutIn ((traces + 1 - trace) * trace_room) (traces_text f (traces + 1 - trace) trace) out at next last
      → PutIn (traces * trace_room) (traces_text f traces 1) out₀ 0 next last

pub at_first : (f : List ℕ) (traces : ℕ) (out : List ℕ) → Reached f traces out out 0 1
at_first f traces out =
    let e : traces + 1 - 1 ≡ traces = omega arith in
    record {
      within = omega arith;
      inside = omega arith;
      completes = λ good all next last p. subst (λ (n : ℕ). PutIn (n * trace_room) (traces_text f n 1) out 0 next last) e p;
    }

pub one_more : (f : List ℕ) (traces : ℕ) (out₀ out copied : List ℕ) (at count trace : ℕ) → Reached f traces out₀ out at trace → 1 ≤ trace → trace ≤ traces
    → count ≤ length copied → length copied ≡ length (take (length out - at) (drop at out))
    → (check_trace f trace ≡ R.accepted → PutIn trace_room (trace_text f trace) (take (length out - at) (drop at out)) 0 count copied)
    → Reached f traces out₀ (take at out ++ (copied ++ drop (length out - at) (drop at out))) (at + count) (trace + 1)
unfolding traces_text
one_more f traces out₀ out copied at count trace r low h l kept p =
    let left : traces + 1 - trace ≡ suc (traces + 1 - (trace + 1)) = omega arith in
    record {
      within = omega arith;
      inside = rw (rest_kept out copied at r.inside kept) (omega arith);
      completes = λ good all next last q.
          let g : trace_room + (traces + 1 - (trace + 1)) * trace_room ≡ suc (traces + 1 - (trace + 1)) * trace_room = omega arith in
          let here = in_rest trace_room _ out at count copied r.inside (p (is_there f trace good low (omega arith))) in
          let both = then_in trace_room ((traces + 1 - (trace + 1)) * trace_room) _ _ out _ at (at + count) next last here q in
          r.completes good all next last
          (subst (λ (n : ℕ). PutIn (n * trace_room) (traces_text f n trace) out at next last) (sym left)
          (subst (λ (room : ℕ). PutIn room (trace_text f trace ++ traces_text f (traces + 1 - (trace + 1)) (trace + 1)) out at next last) g both));
    }

pub all_put : (f : List ℕ) (traces : ℕ) (out₀ out : List ℕ) (at trace : ℕ) → Reached f traces out₀ out at trace → traces < trace
    → check f ≡ R.accepted → traces ≡ bodies_in f → PutIn (traces * trace_room) (traces_text f traces 1) out₀ 0 at out
unfolding traces_text PutIn
all_put f traces out₀ out at trace r h good all =
    let none : traces + 1 - trace ≡ 0 = omega arith in
    let z : at + 0 ≡ at = omega arith in
    r.completes good all at out
    (subst (λ (n : ℕ). PutIn (n * trace_room) (traces_text f n trace) out at at out) (sym none)
    (λ fits. (
      record { ends = sym z; bytes = sym (ap (λ (n : ℕ). take at out ++ drop n out) z ∙ take-append-drop at out) },
      omega arith,
    )))

-- ---- what is printed

-- a line for which less room would do
with_less : (need room : ℕ) (text out : List ℕ) (count : ℕ) (last : List ℕ) → need ≤ room → room ≤ length out
    → Whole need text out count last → Whole room text out count last
unfolding written after
with_less need room text out count last h enough p =
    let q : need ≤ length out = omega arith in
    rw (le-ltb (length out) room enough) (rw (le-ltb (length out) need q) at p.0, rw (le-ltb (length out) need q) at p.1)

refusal_line_of : (r : Refusal) (traces : List ℕ) → refused_text (R.refusal r) ≡ file_text (R.refusal r) traces
unfolding refused_text file_text
refusal_line_of Length traces = refl
refusal_line_of Edition traces = refl
refusal_line_of Tablets traces = refl
refusal_line_of Values traces = refl
refusal_line_of Bodies traces = refl
refusal_line_of (Contents at) traces = refl
refusal_line_of (BadRecord at) traces = refl
refusal_line_of Trace traces = refl

pub refused_printed : (f out : List ℕ) (r : Refusal) (count : ℕ) (last : List ℕ) → report_room ≤ length out
    → R.refusal r ≡ check f → Whole line_room (refused_text (R.refusal r)) out count last → Whole report_room (printed f) out count last
unfolding printed
refused_printed f out r count last enough refused p =
    subst (λ (text : List ℕ). Whole report_room text out count last)
    (refusal_line_of r (traces_text f (bodies_in f) 1) ∙ ap (λ (a : R.Answer). file_text a (traces_text f (bodies_in f) 1)) refused)
    (with_less line_room report_room (refused_text (R.refusal r)) out count last (omega arith) enough p)

pub fourth_byte : (f : List ℕ) → check f ≡ R.accepted → 3 < length f
fourth_byte f good = let l = (good_file f good).of_head.long in omega arith

pub traces_printed : (f out : List ℕ) (traces count : ℕ) (last : List ℕ) → report_room ≤ length out → check f ≡ R.accepted → traces ≡ bodies_in f
    → (check f ≡ R.accepted → traces ≡ bodies_in f → PutIn (traces * trace_room) (traces_text f traces 1) out 0 count last)
    → Whole report_room (printed f) out count last
unfolding printed file_text PutIn
traces_printed f out traces count last enough good all p =
    let few = (good_file f good).of_head.bodies.1 in
    let s = p good all (omega arith) in
    let text : traces_text f traces 1 ≡ file_text (check f) (traces_text f (bodies_in f) 1) =
    ap (λ (n : ℕ). traces_text f n 1) all ∙ ap (λ (a : R.Answer). file_text a (traces_text f (bodies_in f) 1)) (sym good) in
    subst (λ (l : List ℕ). Whole report_room l out count last) text
    (line_put report_room (traces_text f traces 1) out count last enough (omega (arith, s.1)) (stood (traces_text f traces 1) out 0 count last s.0))
