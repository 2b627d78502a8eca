-- `walk::choices::possible` meets its contract: bit by bit, what may happen.
-- Assumes nothing.
use borrow.Author.Rules.{rules}
use mathlib.Core.Path.{◌≡◌, sym, ap, ◌∙◌}
use Prim.Native.Nat.{ℕ}
use Rattle.marks.specs.Sets.{full}
use Rattle.model.specs.Model.{first_state, seats, may}
use Rattle.model.specs.declared.State.{State}
use Rattle.model.specs.declared.Observation.{Observation}
use Rattle.model.specs.declared.Event.TheVariants.{Observed}
use Rattle.walk.proofs.Bits.{possible_with, possible_without}
use Rattle.walk.proofs.choices.possible.Goals as goal

-- in the first state every tablet is fresh
all_fresh : (n : ℕ) (s : State) → s ≡ first_state n → s.fresh ≡ full (seats n)
unfolding first_state
all_fresh n s e = ap (λ (x : State). x.fresh) e

pub returns-then-may_observe : goal.returns-then-may_observe
returns-then-may_observe c =
    rw (c.from.ensures, c.from-2.ensures, all_fresh _ _ c.first-tablets.ensures)
    (possible_with c.args.n c.args.state.now (search rules) (search rules) _
    (ap (λ (o : Observation). may c.args.n c.args.state.now (Observed o)) (sym c.next_observation.ensures) ∙ sym c.may_observe.ensures ∙ c.if-may_observe.true))

pub returns-else-may_observe : goal.returns-else-may_observe
returns-else-may_observe c =
    rw (c.from.ensures, c.from-2.ensures, all_fresh _ _ c.first-tablets.ensures)
    (possible_without c.args.n c.args.state.now (search rules) (search rules) _
    (ap (λ (o : Observation). may c.args.n c.args.state.now (Observed o)) (sym c.next_observation.ensures) ∙ sym c.may_observe.ensures ∙ c.if-may_observe.false))
