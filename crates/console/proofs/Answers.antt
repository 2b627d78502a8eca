-- Any two outcomes that the contract of the C call allows for one input are equal: the status, the room and the area. So are
-- any two that are handed back for what is said.
-- Assumes nothing.
use mathlib.Core.Path.{◌≡◌, sym, ◌∙◌}
use contract.Lifetimes.{Lfts}
use denote.Triple.Clauses.{AtExit}
use borrow.Fn.Kinds.{Dens, res_t, ended_of}
use Rattle.marks.proofs.Single.{Single}
use Rattle.console.proofs.HandedFromResultVerdictRefusal.from.Kinds as from_kinds
use Rattle.console.proofs.HandedFromResultVerdictRefusal.from.Reads as from_reads
use Rattle.console.proofs.sklandupa_explain.Kinds as kinds
use Rattle.console.proofs.sklandupa_explain.Reads as reads

sklandupa_explain : (κs : Lfts 3) (a : Dens κs kinds.ps) (x y : (res_t kinds.r κs).Denot) (e f : AtExit (ended_of 3 kinds.ps kinds.r) κs)
    → reads.Learnt κs a x e → reads.Learnt κs a y f
    → (x ≡ y) × ((e.1.1.1.0.now ≡ f.1.1.1.0.now) × (e.1.1.1.1.0.now ≡ f.1.1.1.1.0.now))
sklandupa_explain κs a x y e f p q = (p.0 ∙ sym q.0, (p.1.0 ∙ sym q.1.0, p.1.1 ∙ sym q.1.1))

from : Single 0 from_kinds.ps from_kinds.r from_reads.Learnt
from κs a x y e f p q = p ∙ sym q
