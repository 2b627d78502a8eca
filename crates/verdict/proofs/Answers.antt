-- Any two answers that the contract of `verdict::explain` allows for one input are equal, and so are the rooms that go with
-- them: no two cases of an answer have the same number and values. So are any two results of its conversions.
-- Assumes nothing.
use mathlib.Core.Bool.{cond}
use mathlib.Core.Path.{◌≡◌, refl, sym, ap, ap₂, ◌∙◌}
use Prim.Native.Nat.{ℕ}
use contract.Lifetimes.{Lfts}
use denote.Triple.Clauses.{AtExit}
use borrow.Fn.Kinds.{Dens, res_t, ended_of}
use Rattle.std.proofs.Common.{Result, Ok, Err}
use lib.Dec.{eqb}
use Rattle.tracefile.specs.declared.Refusal.TheVariants.{Length, Edition, Tablets, Values, Bodies, Contents, BadRecord, Trace}
use Rattle.verdict.specs.Judged.{Said, explained_by, unexplained_in, undecided_at, refused, told}
use Rattle.verdict.specs.declared.Verdict.{Verdict}
use Rattle.verdict.specs.declared.Verdict.TheVariants.{Explained, Unexplained, Undecided}
use Rattle.verdict.specs.declared.Refusal.{Refusal}
use Rattle.verdict.specs.declared.Refusal.TheVariants.{File, NoRoom, TooDeep}
use Rattle.marks.proofs.Single.{Single}
use Rattle.tracefile.specs.declared.Numbered.{Numbered}
use Rattle.verdict.proofs.RefusalFromTracefileRefusal.from.Kinds as of_file_kinds
use Rattle.verdict.proofs.RefusalFromTracefileRefusal.from.Reads as of_file_reads
use Rattle.verdict.proofs.NumberedFromRefusal.from.Kinds as numbered_kinds
use Rattle.verdict.proofs.NumberedFromRefusal.from.Reads as numbered_reads
use Rattle.verdict.proofs.explain.Kinds as kinds
use Rattle.verdict.proofs.explain.Reads as reads

-- the case that has these numbers
case : Said → Result Verdict Refusal
case (explained_by k m) = Ok (Explained k m)
case (unexplained_in k) = Ok (Unexplained k)
case (undecided_at b) = Ok (Undecided b)
case (refused k p) =
    cond (eqb k 1) (Err (File Length))
    (cond (eqb k 2) (Err (File Edition))
    (cond (eqb k 3) (Err (File Tablets))
    (cond (eqb k 4) (Err (File Values))
    (cond (eqb k 5) (Err (File Bodies))
    (cond (eqb k 6) (Err (File (Contents p)))
    (cond (eqb k 7) (Err (File (BadRecord p)))
    (cond (eqb k 8) (Err (File Trace))
    (cond (eqb k 9) (Err NoRoom) (Err TooDeep)))))))))

-- it is the case that told them
case_told : (x : Result Verdict Refusal) → case (told x) ≡ x
unfolding case
case_told (Ok (Explained k m)) = refl
case_told (Ok (Unexplained k)) = refl
case_told (Ok (Undecided b)) = refl
case_told (Err (File Length)) = refl
case_told (Err (File Edition)) = refl
case_told (Err (File Tablets)) = refl
case_told (Err (File Values)) = refl
case_told (Err (File Bodies)) = refl
case_told (Err (File (Contents p))) = refl
case_told (Err (File (BadRecord p))) = refl
case_told (Err (File Trace)) = refl
case_told (Err NoRoom) = refl
case_told (Err TooDeep) = refl

told_once : (x y : Result Verdict Refusal) → told x ≡ told y → x ≡ y
told_once x y h = sym (case_told x) ∙ ap case h ∙ case_told y

-- one answer and one room for each input
explain : (κs : Lfts 2) (a : Dens κs kinds.ps) (x y : (res_t kinds.r κs).Denot) (e f : AtExit (ended_of 2 kinds.ps kinds.r) κs)
    → reads.Learnt κs a x e → reads.Learnt κs a y f
    → (x ≡ y) × (e.1.1.1.0.now ≡ f.1.1.1.0.now)
explain κs a x y e f p q = (told_once x y (p.0 ∙ sym q.0), p.1 ∙ sym q.1)

-- one refusal for each refusal of a file, and one number and place for each refusal
of_file : Single 0 of_file_kinds.ps of_file_kinds.r of_file_reads.Learnt
of_file κs a x y e f p q = p ∙ sym q

number_in : Said → ℕ
number_in (explained_by k m) = 0
number_in (unexplained_in k) = 0
number_in (undecided_at b) = 0
number_in (refused number place) = number

place_in : Said → ℕ
place_in (explained_by k m) = 0
place_in (unexplained_in k) = 0
place_in (undecided_at b) = 0
place_in (refused number place) = place

with_numbers : ℕ → ℕ → Numbered
with_numbers number place = record { number = number; place = place }

numbered : Single 0 numbered_kinds.ps numbered_kinds.r numbered_reads.Learnt
unfolding number_in place_in with_numbers
numbered κs a x y e f p q =
    let h : refused x.number x.place ≡ refused y.number y.place = p ∙ sym q in
    ap₂ with_numbers (ap number_in h) (ap place_in h)
