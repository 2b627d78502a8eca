-- Any two results that the contract of a public function of this crate allows for one input are equal: each contract is
-- one equation of the result with a definition.
-- Assumes nothing.
use mathlib.Core.Path.{sym, ◌∙◌}
use Rattle.events.proofs.first.Kinds as first_kinds
use Rattle.events.proofs.first.Reads as first_reads
use Rattle.events.proofs.may_observe.Kinds as may_observe_kinds
use Rattle.events.proofs.may_observe.Reads as may_observe_reads
use Rattle.events.proofs.then_observe.Kinds as then_observe_kinds
use Rattle.events.proofs.then_observe.Reads as then_observe_reads
use Rattle.events.proofs.may_up.Kinds as may_up_kinds
use Rattle.events.proofs.may_up.Reads as may_up_reads
use Rattle.events.proofs.then_up.Kinds as then_up_kinds
use Rattle.events.proofs.then_up.Reads as then_up_reads
use Rattle.events.proofs.may_down.Kinds as may_down_kinds
use Rattle.events.proofs.may_down.Reads as may_down_reads
use Rattle.events.proofs.then_down.Kinds as then_down_kinds
use Rattle.events.proofs.then_down.Reads as then_down_reads
use Rattle.marks.proofs.Single.{Single}

first : Single 0 first_kinds.ps first_kinds.r first_reads.Learnt
first κs a x y e f p q = p ∙ sym q

may_observe : Single 0 may_observe_kinds.ps may_observe_kinds.r may_observe_reads.Learnt
may_observe κs a x y e f p q = p ∙ sym q

then_observe : Single 0 then_observe_kinds.ps then_observe_kinds.r then_observe_reads.Learnt
then_observe κs a x y e f p q = p ∙ sym q

may_up : Single 0 may_up_kinds.ps may_up_kinds.r may_up_reads.Learnt
may_up κs a x y e f p q = p ∙ sym q

then_up : Single 0 then_up_kinds.ps then_up_kinds.r then_up_reads.Learnt
then_up κs a x y e f p q = p ∙ sym q

may_down : Single 0 may_down_kinds.ps may_down_kinds.r may_down_reads.Learnt
may_down κs a x y e f p q = p ∙ sym q

then_down : Single 0 then_down_kinds.ps then_down_kinds.r then_down_reads.Learnt
then_down κs a x y e f p q = p ∙ sym q
