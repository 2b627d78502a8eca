-- `events::tablets::all_settled` meets its contract: the tablets asked are those of the definition.
-- Assumes nothing.
use Rattle.std.proofs.Common.{◌≡◌, true, false, rules, ◌+◌, ◌∙◌, ap, arith, refl}
use Rattle.std.proofs.lemmas.Iterator.{cases_from_all, YieldsList-from_range}
use borrow.Author.Tests.{tests}
use Rattle.model.specs.Model.{up_to, every, tablets, fresh_and_clean, all_fresh_and_clean}
use Rattle.events.proofs.Settled.{every_asked}
use Rattle.events.proofs.tablets.all_settled.Goals as goal

pub returns : goal.returns
unfolding all_fresh_and_clean tablets
returns c =
    let p = fresh_and_clean c.args.fresh c.args.dirty in
    let asked = YieldsList-from_range 1 (c.seats_of.result + 1) c.seats_of.result refl (omega arith) in
    let told = cases_from_all _ _ _ (λ t. p t ≡ true) (λ t. p t ≡ false) c.all.ensures.ran asked (λ x q k. search (rules, tests)) (λ x q k. search (rules, tests)) in
    every_asked p c.seats_of.result c.all.result told ∙ ap (λ n. every p (up_to n)) c.seats_of.ensures
