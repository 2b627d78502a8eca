-- `console::sklandupa_explain` meets its contract: the area is wrong, or what is said is handed back.
-- Assumes nothing.
use mathlib.Core.Path.{ap, ◌∙◌}
use native.Mathlib.Omega.{arith}
use Rattle.console.specs.declared.Handed.{Handed}
use Rattle.console.proofs.Calls.{wrong_area, right_area, filled}
use Rattle.console.proofs.sklandupa_explain.Goals as goal

pub returns-then-area-ne12 : goal.returns-then-area-ne12
returns-then-area-ne12 c =
    let both = wrong_area c.args.file.now c.args.trace c.args.budget c.args.room.now c.args.area.now c.if-area-ne12.true in
    record { result = ap (λ (h : Handed). h.status) c.from.ensures ∙ both.result; room = both.room; area = both.area }

pub returns : goal.returns
returns c =
    let points = c.copy_from_slice.ensures.after ∙ c.to_le_bytes.ensures in
    let events = c.copy_from_slice-2.ensures.after ∙ c.to_le_bytes-2.ensures in
    let place = c.copy_from_slice-3.ensures.after ∙ c.to_le_bytes-3.ensures in
    right_area c.args.file.now c.args.trace c.args.budget c.args.room.now c.args.area.now (omega arith) c.explain.result _ _ _ c.from-handed.ensures c.explain.ensures.result c.explain.ensures.room (rw (points, events, place) (filled c.args.area.now _ _ _))
