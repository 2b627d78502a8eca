-- `walk::walk` meets its contract: the room is short, the budget is none, the root is an end, or its choices are tried.
-- Assumes nothing.
use mathlib.Core.Path.{◌≡◌, sym, ap, ◌∙◌}
use Prim.Native.Nat.{◌-◌, ◌≤◌}
use native.Mathlib.Omega.{arith}
use Rattle.std.proofs.Common.{Err}
use Rattle.std.proofs.lemmas.Result.{err_from_is_err_and}
use Rattle.walk.specs.declared.Stop.TheVariants.{Spent}
use Rattle.walk.proofs.Whole.{short, no_budget, root_end, root_tried, few_left}
use Rattle.walk.proofs.walk.Goals as goal

pub returns-then-short_of : goal.returns-then-short_of
returns-then-short_of c =
    short c.args.n c.args.budget c.args.body.now c.args.room.now _ c.count_writes-w.ensures (sym c.short_of.ensures ∙ c.if-short_of.true)

pub returns-in_err-left : goal.returns-in_err-left
returns-in_err-left c =
    let z : c.args.budget ≡ 0 = grind arith in
    let p = err_from_is_err_and c.from_residual.result c.from_residual.ensures.1 in
    let e : c.from_residual.result ≡ Err Spent = grind (arith, p.1, p.2) in
    let both = no_budget c.args.n c.args.budget c.args.body.now c.args.room.now _ c.count_writes-w.ensures (sym c.short_of.ensures ∙ c.if-short_of.false) z in
    record { result = e ∙ both.result; room = both.room }

pub returns-then-body-lt12 : goal.returns-then-body-lt12
returns-then-body-lt12 c =
    let z : c.args.budget ≡ 0 → ⊥ = grind arith in
    root_end c.args.n c.args.budget c.args.body.now c.args.room.now _ c.count_writes-w.ensures (sym c.short_of.ensures ∙ c.if-short_of.false) z c.if-body-lt12.true

pub overflow_sub-result : goal.overflow_sub-result
overflow_sub-result c = let l : c.in_ok-left.left ≤ c.args.budget = grind arith in few_left _ _ _ _ _ l c.choose.ensures.result c.in_ok-seen.was

pub returns-in_err-seen : goal.returns-in_err-seen
returns-in_err-seen c =
    let z : c.args.budget ≡ 0 → ⊥ = grind arith in
    let l : c.in_ok-left.left ≡ c.args.budget - 1 = grind arith in
    let p = err_from_is_err_and c.from_residual-in_err-seen.result c.from_residual-in_err-seen.ensures.1 in
    let both = root_tried c.args.n c.args.budget c.args.body.now c.args.room.now _ c.count_writes-w.ensures (sym c.short_of.ensures ∙ c.if-short_of.false) z c.if-body-lt12.false _ c.first-first.ensures _ c.possible-choices.ensures _ l _ _ _ c.choose.ensures.result c.choose.ensures.room c.in_err-seen.was in
    record { result = p.1 ∙ ap Err p.2 ∙ both.result; room = both.room }

pub returns : goal.returns
returns c =
    let z : c.args.budget ≡ 0 → ⊥ = grind arith in
    let l : c.in_ok-left.left ≡ c.args.budget - 1 = grind arith in
    root_tried c.args.n c.args.budget c.args.body.now c.args.room.now _ c.count_writes-w.ensures (sym c.short_of.ensures ∙ c.if-short_of.false) z c.if-body-lt12.false _ c.first-first.ensures _ c.possible-choices.ensures _ l _ _ _ c.choose.ensures.result c.choose.ensures.room c.in_ok-seen.was
