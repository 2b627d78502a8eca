-- `cases::run_packed` meets its contract: each answer is counted.
-- Assumes nothing.
use native.Mathlib.Omega.{arith}
use borrow.Author.Rules.{rules}
use mathlib.Core.Bool.{cond}
use mathlib.Core.Path.{◌≡◌, ap}
use Rattle.std.specs.Prelude.{is_some}
use Rattle.cases.specs.Seen.{cases_left}
use Rattle.cases.specs.Tallied.{differs}
use Rattle.cases.proofs.Counted.{one_more, fits_next}
use Rattle.cases.proofs.run_packed.Goals as goal

pub overflow_add-tally : goal.overflow_add-tally
overflow_add-tally g c =
    omega (
      arith,
      (fits_next c.args.packed.now c.is_some.result c.from.result _ c.loop-case.case-iterator c.next.new.self _ c.in-Some.case
          (ap cases_left c.into_iter-case-iterator.ensures.into_iter_gives) c.loop-case.yielded_by c.in-Some.is c.next.ensures.steps
          c.loop-case.invariant.2 (search rules)).0,
    )

pub overflow_add-tally-in-loop-case : goal.overflow_add-tally-in-loop-case
overflow_add-tally-in-loop-case g c =
    omega (
      arith,
      (fits_next c.args.packed.now c.eq-differs.result c.from-in-loop-case.result _ c.loop-case.case-iterator c.next.new.self _ c.in-Some.case
          (ap cases_left c.into_iter-case-iterator.ensures.into_iter_gives) c.loop-case.yielded_by c.in-Some.is c.next.ensures.steps
          c.loop-case.invariant.2 (search rules)).1,
    )

pub loop-case-preserved : goal.loop-case-preserved
loop-case-preserved g c =
    let asked : c.from.result ≡ cond (is_some c.agrees-answer.result) 1 0 = search rules in
    let other : c.from-in-loop-case.result ≡ cond (differs c.agrees-answer.result) 1 0 = search rules in
    (search rules, search rules, one_more _ _ _ _ c.loop-case.invariant.2 c.agrees-answer.ensures asked other)
