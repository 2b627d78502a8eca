-- Any two answers that the contract of `writer::write_file` allows for one input are equal, and so are the buffers that go
-- with them: no two cases of an answer have the same number and place, and the buffer follows from the answer.
-- Assumes nothing.
use mathlib.Core.Bool.{cond}
use mathlib.Core.Path.{◌≡◌, refl, sym, ap, ◌∙◌}
use contract.Lifetimes.{Lfts}
use denote.Triple.Clauses.{AtExit}
use borrow.Fn.Kinds.{Dens, res_t, ended_of}
use Rattle.std.proofs.Common.{Result, Ok, Err}
use lib.Dec.{eqb}
use Prim.Native.Nat.{ℕ}
use Rattle.writer.specs.declared.Unwritten.{Unwritten}
use Rattle.writer.specs.declared.Unwritten.TheVariants.{Tablets, Values, Bodies, Counts, BadRecord, Room}
use Rattle.writer.specs.Written.{Outcome, wrote, refused, told, buffer_after}
use Rattle.writer.proofs.write_file.Kinds as kinds
use Rattle.writer.proofs.write_file.Reads as reads

-- the case that has a length, or a number and a place
case : Outcome → Result ℕ Unwritten
case (wrote size) = Ok size
case (refused k p) =
    cond (eqb k 3) (Err Tablets)
    (cond (eqb k 4) (Err Values)
    (cond (eqb k 5) (Err Bodies)
    (cond (eqb k 6) (Err Counts)
    (cond (eqb k 7) (Err (BadRecord p)) (Err Room)))))

-- it is the case that told them
case_told : (x : Result ℕ Unwritten) → case (told x) ≡ x
unfolding case
case_told (Ok size) = refl
case_told (Err Tablets) = refl
case_told (Err Values) = refl
case_told (Err Bodies) = refl
case_told (Err Counts) = refl
case_told (Err (BadRecord p)) = refl
case_told (Err Room) = refl

-- what an answer tells has one case
told_once : (x y : Result ℕ Unwritten) → told x ≡ told y → x ≡ y
told_once x y h = sym (case_told x) ∙ ap case h ∙ case_told y

-- one answer and one buffer for each input
write_file : (κs : Lfts 3) (a : Dens κs kinds.ps) (x y : (res_t kinds.r κs).Denot) (e f : AtExit (ended_of 3 kinds.ps kinds.r) κs)
    → reads.Learnt κs a x e → reads.Learnt κs a y f
    → (x ≡ y) × (e.1.1.1.1.0.now ≡ f.1.1.1.1.0.now)
write_file κs a x y e f p q =
    let same = p.0 ∙ sym q.0 in
    (told_once x y same, p.1 ∙ ap (buffer_after _ _) same ∙ sym q.1)
