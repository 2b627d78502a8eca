-- Any two counts that the contract of a public function of this crate allows for one input are equal, and so are the bytes
-- that go with them.
-- Assumes nothing.
use mathlib.Core.Path.{◌≡◌, sym, ◌∙◌}
use contract.Lifetimes.{Lfts}
use denote.Triple.Clauses.{AtExit}
use borrow.Fn.Kinds.{Dens, res_t, ended_of}
use Rattle.lines.proofs.answer_line.Kinds as answer_kinds
use Rattle.lines.proofs.answer_line.Reads as answer_reads
use Rattle.lines.proofs.events_line.Kinds as events_kinds
use Rattle.lines.proofs.events_line.Reads as events_reads
use Rattle.lines.proofs.notation.record_line.Kinds as record_kinds
use Rattle.lines.proofs.notation.record_line.Reads as record_reads
use Rattle.lines.proofs.refusal_line.Kinds as refusal_kinds
use Rattle.lines.proofs.refusal_line.Reads as refusal_reads
use Rattle.lines.proofs.trace_line.Kinds as trace_kinds
use Rattle.lines.proofs.trace_line.Reads as trace_reads

answer_line : (κs : Lfts 1) (a : Dens κs answer_kinds.ps) (x y : (res_t answer_kinds.r κs).Denot) (e f : AtExit (ended_of 1 answer_kinds.ps answer_kinds.r) κs)
    → answer_reads.Learnt κs a x e → answer_reads.Learnt κs a y f
    → (x ≡ y) × (e.1.1.0.now ≡ f.1.1.0.now)
answer_line κs a x y e f p q = (p.0 ∙ sym q.0, p.1 ∙ sym q.1)

events_line : (κs : Lfts 2) (a : Dens κs events_kinds.ps) (x y : (res_t events_kinds.r κs).Denot) (e f : AtExit (ended_of 2 events_kinds.ps events_kinds.r) κs)
    → events_reads.Learnt κs a x e → events_reads.Learnt κs a y f
    → (x ≡ y) × (e.1.0.now ≡ f.1.0.now)
events_line κs a x y e f p q = (p.0 ∙ sym q.0, p.1 ∙ sym q.1)

refusal_line : (κs : Lfts 1) (a : Dens κs refusal_kinds.ps) (x y : (res_t refusal_kinds.r κs).Denot) (e f : AtExit (ended_of 1 refusal_kinds.ps refusal_kinds.r) κs)
    → refusal_reads.Learnt κs a x e → refusal_reads.Learnt κs a y f
    → (x ≡ y) × (e.1.0.now ≡ f.1.0.now)
refusal_line κs a x y e f p q = (p.0 ∙ sym q.0, p.1 ∙ sym q.1)

trace_line : (κs : Lfts 1) (a : Dens κs trace_kinds.ps) (x y : (res_t trace_kinds.r κs).Denot) (e f : AtExit (ended_of 1 trace_kinds.ps trace_kinds.r) κs)
    → trace_reads.Learnt κs a x e → trace_reads.Learnt κs a y f
    → (x ≡ y) × (e.1.0.now ≡ f.1.0.now)
trace_line κs a x y e f p q = (p.0 ∙ sym q.0, p.1 ∙ sym q.1)

record_line : (κs : Lfts 1) (a : Dens κs record_kinds.ps) (x y : (res_t record_kinds.r κs).Denot) (e f : AtExit (ended_of 1 record_kinds.ps record_kinds.r) κs)
    → record_reads.Learnt κs a x e → record_reads.Learnt κs a y f
    → (x ≡ y) × (e.1.0.now ≡ f.1.0.now)
record_line κs a x y e f p q = (p.0 ∙ sym q.0, p.1 ∙ sym q.1)
