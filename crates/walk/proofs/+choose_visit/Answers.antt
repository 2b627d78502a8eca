-- `walk::choose` and `walk::visit` meet their contracts. They call each other: with each visit the room is two bytes shorter,
-- with each further choice the set of choices is smaller.
-- Assumes nothing.
use Prim.Native.Nat.{ℕ}
use mathlib.Core.Path.{ap, ◌∙◌}
use native.Mathlib.Omega.{arith}
use Rattle.std.proofs.Common.{Err}
use Rattle.std.proofs.lemmas.Result.{err_from_is_err_and}
use Rattle.walk.proofs.Left.{an_end_is}
use Rattle.walk.proofs.Visits.{end_left, end_room, visit_left, visit_room}
use Rattle.walk.proofs.Ways.{Visited, visited, at_end, no_choice, nothing_more, budget_spent, no_room, end_found, others_tried, stopped_on, fewer, events_few, part_length, same_after}
use Rattle.walk.proofs.+choose_visit.Goals as goal
use Rattle.walk.proofs.+choose_visit.Goals.{choose-After-visit}

pub choose-returns-then-body-lt12 : goal.choose-returns-then-body-lt12
choose-returns-then-body-lt12 t c =
    at_end _ _ _ _ _ _ c.if-body-lt12.true

pub choose-returns-then-choices-eq0 : goal.choose-returns-then-choices-eq0
choose-returns-then-choices-eq0 t c =
    no_choice _ _ _ _ _ _ c.if-choices-eq0.true

pub choose-returns-then-left-eq0 : goal.choose-returns-then-left-eq0
choose-returns-then-left-eq0 t c =
    budget_spent _ _ _ _ _ _ c.if-body-lt12.false c.ranges.choices.fits c.if-choices-eq0.false (omega arith)

pub choose-returns-then-room-lt2 : goal.choose-returns-then-room-lt2
choose-returns-then-room-lt2 t c =
    no_room _ _ _ _ _ _ c.if-body-lt12.false c.ranges.choices.fits c.if-choices-eq0.false (omega arith) c.if-room-lt2.true

pub visit-returns-then-body-lt12 : goal.visit-returns-then-body-lt12
visit-returns-then-body-lt12 t c =
    record { result = end_left _ _ _ _ _ c.if-body-lt12.true; room = end_room _ _ _ _ _ _ c.if-body-lt12.true }

pub visit-returns-then-choices-eq0 : goal.visit-returns-then-choices-eq0
visit-returns-then-choices-eq0 t c =
    let k = no_choice _ _ _ _ _ _ c.if-choices-eq0.true in
    record { result = k.result ∙ visit_left _ _ _ _ _ _ c.if-body-lt12.false c.possible-choices.ensures; room = k.room ∙ visit_room _ _ _ _ _ _ _ c.if-body-lt12.false c.possible-choices.ensures }

pub visit-returns : goal.visit-returns
visit-returns t c =
    record { result = c.choose.ensures.result ∙ visit_left _ _ _ _ _ _ c.if-body-lt12.false c.possible-choices.ensures; room = c.choose.ensures.room ∙ visit_room _ _ _ _ _ _ _ c.if-body-lt12.false c.possible-choices.ensures }

-- what four ways out share: the child of the lowest choice has been visited
child_visited : (t : ℕ) (c : choose-After-visit t)
    → Visited c.args.n c.args.left c.args.choices c.args.state.now c.args.body.now c.args.room.now c.lowest-pick.result c.visit.result c.visit.new.room
child_visited t c =
    visited _ _ _ _ _ c.args.room.now c.if-body-lt12.false c.ranges.choices.fits c.if-choices-eq0.false (omega arith) c.if-room-lt2.false _ _ _ _ _ c.lowest-pick.ensures c.after-next.ensures c.used-skip.ensures c.visit.ensures.result c.visit.ensures.room

pub choose-returns-in_err-seen : goal.choose-returns-in_err-seen
choose-returns-in_err-seen t c =
    let both = stopped_on _ _ _ _ _ _ _ _ _ (child_visited t (goal.at.choose-returns-in_err-seen t c).After-visit) _ c.in_err-seen.was in
    let p = err_from_is_err_and c.from_residual.result c.from_residual.ensures.1 in
    record { result = p.1 ∙ ap Err p.2 ∙ both.result; room = both.room }

pub choose-overflow_add-result : goal.choose-overflow_add-result
choose-overflow_add-result t c =
    let few = events_few _ _ _ _ _ _ _ _ c.visit.ensures.result (c.in_ok-seen.was ∙ an_end_is _ _ c.in-Some.is) in
    let part = part_length c.args.room.now 2 in
    omega arith

pub choose-returns-in-Some : goal.choose-returns-in-Some
choose-returns-in-Some t c =
    end_found _ _ _ _ _ _ _ _ _ (child_visited t (goal.at.choose-returns-in-Some t c).After-visit) _ _ _ c.in_ok-seen.was c.in-Some.is (c.copy_from_slice.ensures.after ∙ c.event_at.ensures)

pub choose-returns-then-others-eq0 : goal.choose-returns-then-others-eq0
choose-returns-then-others-eq0 t c =
    others_tried _ _ _ _ _ _ _ _ _ (child_visited t (goal.at.choose-returns-then-others-eq0 t c).After-visit) _ _ _ _ c.in_ok-seen.was c.in-None.is c.remove-others.ensures (nothing_more _ _ _ _ _ _ c.in-None.is c.if-others-eq0.true)

pub choose-choose-requires : goal.choose-choose-requires
choose-choose-requires t c =
    let same = same_after c.args.room.now c.visit.new.room c.visit.auto.room in
    let less = fewer _ _ _ c.ranges.choices.fits c.if-choices-eq0.false c.lowest-pick.ensures c.remove-others.ensures in
    (omega arith, tt)

pub choose-returns-else-others-eq0 : goal.choose-returns-else-others-eq0
choose-returns-else-others-eq0 t c =
    others_tried _ _ _ _ _ _ _ _ _ (child_visited t (goal.at.choose-returns-else-others-eq0 t c).After-visit) _ _ _ _ c.in_ok-seen.was c.in-None.is c.remove-others.ensures c.choose.ensures
