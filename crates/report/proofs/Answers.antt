-- Any two counts that the contract of `report::report` allows for one input are equal, and so are the bytes that go with them.
-- Assumes nothing.
use mathlib.Core.Path.{◌≡◌, sym, ◌∙◌}
use contract.Lifetimes.{Lfts}
use denote.Triple.Clauses.{AtExit}
use borrow.Fn.Kinds.{Dens, res_t, ended_of}
use Rattle.report.proofs.report.Kinds as kinds
use Rattle.report.proofs.report.Reads as reads

report : (κs : Lfts 2) (a : Dens κs kinds.ps) (x y : (res_t kinds.r κs).Denot) (e f : AtExit (ended_of 2 kinds.ps kinds.r) κs)
    → reads.Learnt κs a x e → reads.Learnt κs a y f
    → (x ≡ y) × (e.1.0.now ≡ f.1.0.now)
report κs a x y e f p q = (p.0 ∙ sym q.0, p.1 ∙ sym q.1)
