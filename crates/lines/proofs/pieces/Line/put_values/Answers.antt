-- `lines::pieces::Line::put_values` meets its contract: the lowest value is put, and then each that is looked at and is there.
-- Assumes nothing.
use native.Mathlib.Omega.{arith}
use mathlib.Core.Path.{sym, ◌∙◌}
use Rattle.marks.proofs.Laws.{lowest_below}
use Rattle.lines.proofs.Lines.{nothing_puts, once_put, one_more}
use Rattle.lines.proofs.Values.{some_values, with_value, without_value, none_left}
use Rattle.lines.specs.Notation.{values_text}
use Rattle.lines.proofs.pieces.Line.put_values.Goals.{then-has, else-has}
use borrow.Author.Tests.{eq-eqb}
use Rattle.lines.proofs.pieces.Line.put_values.Goals as goal

pub returns-then-set-eq0 : goal.returns-then-set-eq0
unfolding values_text
returns-then-set-eq0 c = rw (eq-eqb _ 0 c.if-set-eq0.true) (nothing_puts _)

pub overflow_step-value : goal.overflow_step-value
overflow_step-value c = let low = lowest_below 64 c.args.set c.ranges.set.fits (omega arith) in omega (arith, c.lowest-lowest.ensures)

pub loop-value-init : goal.loop-value-init
loop-value-init c =
    rw (← some_values c.args.set _ c.if-set-eq0.false c.lowest-lowest.ensures) (once_put _ _ (rw c.from.ensures at c.put_decimal.ensures))

pub loop-value-preserved : goal.loop-value-preserved
loop-value-preserved c = elim c.if-has.branch [
  | then-has w ↦
      rw w.self-is
      (one_more _ _ (rw (with_value c.args.set c.loop-value.value (omega arith) (sym c.has.ensures ∙ w.if-has.true)) at c.loop-value.invariant)
      (rw w.from-then-has.ensures at w.put_number.ensures))
  | else-has w ↦
      rw (w.self-is, ← without_value c.args.set c.loop-value.value (omega arith) (sym c.has.ensures ∙ w.if-has.false)) c.loop-value.invariant
]

pub returns : goal.returns
returns c = c.loop-value.invariant.puts _ (rw (none_left c.args.set c.loop-value.value (omega arith)) (nothing_puts _))
