-- `writer::decide` meets its contract: its tests, in order, are those of the definition.
-- Assumes nothing.
use mathlib.Core.Path.{sym, ◌∙◌}
use native.Mathlib.Omega.{arith}
use Rattle.std.proofs.lemmas.Grind.{common_steps}
use Rattle.writer.specs.Written.{write, rows_then_room, fitted}
use Rattle.writer.proofs.Decided.{counted, decided_ok}
use Rattle.writer.proofs.decide.Goals as goal

pub overflow_cast-bytes : goal.overflow_cast-bytes
overflow_cast-bytes c =
    let b = (counted _ _ c.if-k-gt16.false (sym c.miscounted.ensures ∙ c.if-miscounted.false)).1 in
    omega (arith, b)

pub overflow_cast-k : goal.overflow_cast-k
overflow_cast-k c =
    let b = (counted _ _ c.if-k-gt16.false (sym c.miscounted.ensures ∙ c.if-miscounted.false)).1 in
    omega (arith, b)

pub returns-clause-told : goal.returns-clause-told
unfolding write rows_then_room fitted
returns-clause-told c = grind (arith, common_steps)

pub returns-clause-decided : goal.returns-clause-decided
returns-clause-decided c = decided_ok _ _ _ _ _ _ (returns-clause-told c)
