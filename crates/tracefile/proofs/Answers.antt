-- Any two results that the contract of a public function of this crate allows for one input are equal: no two cases of an
-- answer have the same number and place, and a part is its bytes.
-- Assumes nothing.
use mathlib.Core.Bool.{cond}
use mathlib.Core.Path.{◌≡◌, refl, sym, ap, ap₂, ◌∙◌}
use contract.Lifetimes.{Lfts}
use denote.Triple.Clauses.{AtExit}
use borrow.Fn.Kinds.{Dens, res_t, ended_of}
use lib.Dec.{eqb}
use Rattle.tracefile.proofs.check_file.Kinds as check_file_kinds
use Rattle.tracefile.proofs.check_file.Reads as check_file_reads
use Rattle.tracefile.proofs.check_asked.Kinds as check_asked_kinds
use Rattle.tracefile.proofs.check_asked.Reads as check_asked_reads
use Rattle.tracefile.proofs.asked_body.Kinds as asked_body_kinds
use Rattle.tracefile.proofs.asked_body.Reads as asked_body_reads
use Rattle.tracefile.proofs.body_of.Kinds as body_of_kinds
use Rattle.tracefile.proofs.body_of.Reads as body_of_reads
use Rattle.tracefile.proofs.NumberedFromRefusal.from.Kinds as from_kinds
use Rattle.tracefile.proofs.NumberedFromRefusal.from.Reads as from_reads
use Prim.Native.Nat.{ℕ}
use Rattle.tracefile.specs.Refusals.{Answer, accepted, refused, refusal, told}
use Rattle.tracefile.specs.File.{check_trace, asked}
use Rattle.tracefile.specs.declared.Numbered.{Numbered}
use Rattle.tracefile.specs.declared.Refusal.{Refusal}
use Rattle.tracefile.specs.declared.Refusal.TheVariants.{Length, Edition, Tablets, Values, Bodies, Contents, BadRecord, Trace}
use Rattle.std.proofs.Common.{List, Result, Ok, Err, Bor, IfOk, IfErr}
use Rattle.marks.proofs.Single.{Single}

-- the case that has a number and a place
case : Answer → Result (Unit {0}) Refusal
case accepted = Ok tt
case (refused k p) =
    cond (eqb k 1) (Err Length)
    (cond (eqb k 2) (Err Edition)
    (cond (eqb k 3) (Err Tablets)
    (cond (eqb k 4) (Err Values)
    (cond (eqb k 5) (Err Bodies)
    (cond (eqb k 6) (Err (Contents p))
    (cond (eqb k 7) (Err (BadRecord p)) (Err Trace)))))))

case_told : (x : Result (Unit {0}) Refusal) → case (told x) ≡ x
unfolding case
case_told (Ok _) = refl
case_told (Err Length) = refl
case_told (Err Edition) = refl
case_told (Err Tablets) = refl
case_told (Err Values) = refl
case_told (Err Bodies) = refl
case_told (Err (Contents p)) = refl
case_told (Err (BadRecord p)) = refl
case_told (Err Trace) = refl

-- a number and a place have one case
pub told_once : (x y : Result (Unit {0}) Refusal) → told x ≡ told y → x ≡ y
told_once x y h = sym (case_told x) ∙ ap case h ∙ case_told y

check_file : Single 1 check_file_kinds.ps check_file_kinds.r check_file_reads.Learnt
check_file κs a x y e f p q = told_once x y (p ∙ sym q)

check_asked : Single 1 check_asked_kinds.ps check_asked_kinds.r check_asked_reads.Learnt
check_asked κs a x y e f p q = told_once x y (p ∙ sym q)

asked_body : (κs : Lfts 1) (a : Dens κs asked_body_kinds.ps) (x y : (res_t asked_body_kinds.r κs).Denot) (e f : AtExit (ended_of 1 asked_body_kinds.ps asked_body_kinds.r) κs)
    → asked_body_reads.Learnt κs a x e → asked_body_reads.Learnt κs a y f → x.now ≡ y.now
asked_body κs a x y e f p q = p ∙ sym q

number_in : Answer → ℕ
number_in accepted = 0
number_in (refused number place) = number

place_in : Answer → ℕ
place_in accepted = 0
place_in (refused number place) = place

with_numbers : ℕ → ℕ → Numbered
with_numbers number place = record { number = number; place = place }

from : Single 0 from_kinds.ps from_kinds.r from_reads.Learnt
unfolding number_in place_in with_numbers
from κs a x y e f p q =
    let h : refused x.number x.place ≡ refused y.number y.place = p ∙ sym q in
    ap₂ with_numbers (ap number_in h) (ap place_in h)

-- the same bytes handed back, or the same refusal
abbrev Same : Result (Bor (List ℕ)) Refusal → Result (Bor (List ℕ)) Refusal → Type 0
Same (Ok a) (Ok b) = a.now ≡ b.now
Same (Err a) (Err b) = a ≡ b
Same (Ok a) (Err b) = ⊥
Same (Err a) (Ok b) = ⊥

-- a body that is handed back is the asked one, and a refusal is the check's
abbrev Handed : List ℕ → ℕ → Result (Bor (List ℕ)) Refusal → Type 0
Handed f t r = IfOk r (λ body. (check_trace f t ≡ accepted) × (body.now ≡ asked f t)) × IfErr r (λ e. refusal e ≡ check_trace f t)

-- no refusal accepts
never : (r : Refusal) → refusal r ≡ accepted → ⊥
never r h = let z : ◌≡◌ {A = Result (Unit {0}) Refusal} (Err r) (Ok tt) = told_once (Err r) (Ok tt) h in cc

same : (f : List ℕ) (t : ℕ) (x y : Result (Bor (List ℕ)) Refusal) → Handed f t x → Handed f t y → Same x y
same f t (Ok a) (Ok b) p q = p.0.1 ∙ sym q.0.1
same f t (Err a) (Err b) p q = let h : ◌≡◌ {A = Result (Unit {0}) Refusal} (Err a) (Err b) = told_once (Err a) (Err b) (p.1 ∙ sym q.1) in cc
same f t (Ok a) (Err b) p q = never b (q.1 ∙ p.0.0)
same f t (Err a) (Ok b) p q = never a (p.1 ∙ q.0.0)

body_of : (κs : Lfts 1) (a : Dens κs body_of_kinds.ps) (x y : (res_t body_of_kinds.r κs).Denot) (e f : AtExit (ended_of 1 body_of_kinds.ps body_of_kinds.r) κs)
    → body_of_reads.Learnt κs a x e → body_of_reads.Learnt κs a y f → Same x y
body_of κs a x y e f p q = same _ _ x y p q
