-- `events::tablets::others_stale` meets its contract: one tablet more is passed, and once all are, only the kept one may be
-- left.
-- Assumes nothing.
use mathlib.Core.Path.{ap, ◌∙◌}
use Rattle.marks.specs.Sets.{only}
use Rattle.events.proofs.Stale.{staled_none, staled_more, staled_kept, staled_all}
use Rattle.events.proofs.tablets.others_stale.Goals as goal
use Rattle.events.proofs.tablets.others_stale.Goals.{then-other-keep, else-other-keep}

pub loop-other-init : goal.loop-other-init
loop-other-init c = staled_none _ _ c.ranges.fresh.fits

pub loop-other-preserved : goal.loop-other-preserved
loop-other-preserved c =
    elim c.if-other-keep.branch [
      | then-other-keep w ↦ rw (w.left-is ∙ w.remove-left.ensures) (staled_more _ _ _ _ c.loop-other-test.true w.if-other-keep.true c.loop-other.invariant)
      | else-other-keep w ↦ rw w.left-is (staled_kept _ _ _ _ c.loop-other-test.true w.if-other-keep.false c.loop-other.invariant)
    ]

pub returns : goal.returns
returns c =
    staled_all _ _ _ _ c.ranges.fresh.fits c.loop-other-test.false c.loop-other.invariant ∙ ap (only c.args.fresh) c.seat_of-keep.ensures
