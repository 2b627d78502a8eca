-- `report::traces::put_trace` meets its contract: one line, or two where the trace is explained.
-- Assumes nothing.
use borrow.Author.Rules.{rules}
use native.Mathlib.Omega.{arith}
use mathlib.Core.Path.{◌≡◌, sym}
use Prim.Native.Nat.{◌-◌, ◌^◌, ◌<◌, ◌≤◌}
use lib.ListN.{length}
use lib.Seq.{length-take-le}
use Rattle.std.specs.Prelude.{Ok}
use Rattle.verdict.specs.declared.Verdict.TheVariants.{Explained}
use Rattle.lines.proofs.Putting.{within}
use Rattle.report.proofs.Parts.{rest_kept}
use Rattle.report.proofs.Traced.{events_there, one_line, two_lines}
use Rattle.report.proofs.traces.put_trace.Goals as goal

pub slice_bounds-room-end : goal.slice_bounds-room-end
slice_bounds-room-end c =
    let said : c.explain-said.result ≡ Ok (Explained c.in-Ok-Explained.field-0-0 c.in-Ok-Explained.events) = search rules in
    let there = events_there _ _ _ _ _ _ _ _ c.explain-said.ensures.result c.explain-said.ensures.room (search rules) said in
    omega arith

pub slice_bounds-explanation-end : goal.slice_bounds-explanation-end
slice_bounds-explanation-end c =
    let said : c.explain-said.result ≡ Ok (Explained c.in-Ok-Explained.field-0-0 c.in-Ok-Explained.events) = search rules in
    let there = events_there _ _ _ _ _ _ _ _ c.explain-said.ensures.result c.explain-said.ensures.room (search rules) said in
    sym (length-take-le _ _ (omega arith))

pub slice_bounds-events_line-count : goal.slice_bounds-events_line-count
slice_bounds-events_line-count c = within _ _ _ _ _ (c.answer_line-size.ensures.result, c.answer_line-size.ensures.out)

pub slice_bounds-events_line-start : goal.slice_bounds-events_line-start
slice_bounds-events_line-start c =
    let inside : c.answer_line-size.result ≤ length c.answer_line-size.new.out = within _ _ _ _ _ (c.answer_line-size.ensures.result, c.answer_line-size.ensures.out) in
    search rules

pub overflow_add-result : goal.overflow_add-result
overflow_add-result c =
    let first = within _ _ _ _ _ (c.answer_line-size.ensures.result, c.answer_line-size.ensures.out) in
    let second = within _ _ _ _ _ (c.events_line.ensures.result, c.events_line.ensures.out) in
    let long : length c.answer_line-size.new.out < 2 ^ 64 = search rules in
    let kept : length c.events_line.new.out ≡ length c.answer_line-size.new.out - c.answer_line-size.result = search rules in
    omega arith

pub returns-in-Ok-Explained : goal.returns-in-Ok-Explained
returns-in-Ok-Explained c =
    let said : c.explain-said.result ≡ Ok (Explained c.in-Ok-Explained.field-0-0 c.in-Ok-Explained.events) = search rules in
    let inside : c.answer_line-size.result ≤ length c.answer_line-size.new.out = within _ _ _ _ _ (c.answer_line-size.ensures.result, c.answer_line-size.ensures.out) in
    let second = within _ _ _ _ _ (c.events_line.ensures.result, c.events_line.ensures.out) in
    record {
      within = rw (rest_kept c.answer_line-size.new.out c.events_line.new.out c.answer_line-size.result inside (search rules)) (omega arith);
      text = λ good. two_lines _ _ _ _ _ c.empty-room.ensures c.explain-said.ensures.result c.explain-said.ensures.room (search rules) good _ _ _ _ _ _ _ said
          (c.answer_line-size.ensures.result, c.answer_line-size.ensures.out) inside (c.events_line.ensures.result, c.events_line.ensures.out);
    }

pub returns-in_default : goal.returns-in_default
returns-in_default c =
    record {
      within = within _ _ _ _ _ (c.answer_line-size.ensures.result, c.answer_line-size.ensures.out);
      text = λ good. one_line _ _ _ _ _ c.empty-room.ensures c.explain-said.ensures.result c.explain-said.ensures.room (search rules) good _ _ _ (λ k m e. search rules) (c.answer_line-size.ensures.result, c.answer_line-size.ensures.out);
    }

pub returns-in_default-2 : goal.returns-in_default-2
returns-in_default-2 c =
    record {
      within = within _ _ _ _ _ (c.answer_line-size.ensures.result, c.answer_line-size.ensures.out);
      text = λ good. one_line _ _ _ _ _ c.empty-room.ensures c.explain-said.ensures.result c.explain-said.ensures.room (search rules) good _ _ _ (λ k m e. search rules) (c.answer_line-size.ensures.result, c.answer_line-size.ensures.out);
    }
