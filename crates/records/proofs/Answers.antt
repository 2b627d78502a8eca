-- Any two results that the contract of a public function of this crate allows for one input are equal: each contract is
-- one equation of the result with a definition.
-- Assumes nothing.
use mathlib.Core.Path.{sym, ◌∙◌}
use Rattle.records.proofs.read_record.Kinds as read_record_kinds
use Rattle.records.proofs.read_record.Reads as read_record_reads
use Rattle.records.proofs.next.Kinds as next_kinds
use Rattle.records.proofs.next.Reads as next_reads
use Rattle.records.proofs.Limits.keep.Kinds as keep_kinds
use Rattle.records.proofs.Limits.keep.Reads as keep_reads
use Rattle.records.proofs.RecordFromRefArrayU812.from.Kinds as from_kinds
use Rattle.records.proofs.RecordFromRefArrayU812.from.Reads as from_reads
use Rattle.records.proofs.observation.Kinds as observation_kinds
use Rattle.records.proofs.observation.Reads as observation_reads
use Rattle.marks.proofs.Single.{Single}

read_record : Single 1 read_record_kinds.ps read_record_kinds.r read_record_reads.Learnt
read_record κs a x y e f p q = p ∙ sym q

next : Single 1 next_kinds.ps next_kinds.r next_reads.Learnt
next κs a x y e f p q = p ∙ sym q

from : Single 1 from_kinds.ps from_kinds.r from_reads.Learnt
from κs a x y e f p q = p ∙ sym q

keep : Single 0 keep_kinds.ps keep_kinds.r keep_reads.Learnt
keep κs a x y e f p q = p ∙ sym q

observation : Single 0 observation_kinds.ps observation_kinds.r observation_reads.Learnt
observation κs a x y e f p q = p ∙ sym q
