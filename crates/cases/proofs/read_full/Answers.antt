-- `cases::read_full` meets its contract: what a read brings is put behind what had come.
-- Assumes nothing.
use borrow.Author.Rules.{rules}
use mathlib.Core.Path.{subst}
use Rattle.std.specs.Io.KnownBytes.{Consumes}
use Rattle.std.proofs.KnownBytes.{Consumes-trans}
use Rattle.cases.proofs.Reading.{put_behind}
use Rattle.cases.proofs.read_full.Goals as goal

pub loop-done-preserved : goal.loop-done-preserved
loop-done-preserved g c = (
  search rules,
  search rules,
  subst (Consumes _ _) (put_behind _ _ _ _ _ c.loop-done.invariant.1 c.in_ok-came.ensures.bound.0)
      (Consumes-trans _ _ _ _ _ c.loop-done.invariant.2 c.in_ok-came.ensures.bytes.0),
)
