-- Any two results that a conversion's contract allows for one input are equal: each contract is one equation of the result
-- with a definition. What is printed of a byte that is no kind is one text, its `output`.
-- Assumes nothing.
use mathlib.Core.Path.{sym, ◌∙◌}
use Rattle.model.proofs.KindTryFromU8.try_from.Kinds as try_from_kinds
use Rattle.model.proofs.KindTryFromU8.try_from.Reads as try_from_reads
use Rattle.model.proofs.U8FromKind.from.Kinds as from_kinds
use Rattle.model.proofs.U8FromKind.from.Reads as from_reads
use Rattle.marks.proofs.Single.{Single}

try_from : Single 0 try_from_kinds.ps try_from_kinds.r try_from_reads.Learnt
try_from κs a x y e f p q = p ∙ sym q

from : Single 0 from_kinds.ps from_kinds.r from_reads.Learnt
from κs a x y e f p q = p ∙ sym q
