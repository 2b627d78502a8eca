-- Cases A to K, proved by computation: one table, one claim.
-- Assumes nothing.
use mathlib.Core.Path.{refl}
use Rattle.marks.specs.Sets.{has, add, remove, only, full}
use Rattle.model.specs.Evenings.{TableHolds, worked_out}

pub table_holds : TableHolds
unfolding worked_out has add remove only full
table_holds = refl
