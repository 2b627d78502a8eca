-- What the call hands back, in terms of what it calls.
-- Assumes nothing.
use Prim.Native.Nat.{ℕ, ◌-◌, ◌≤◌}
use native.Mathlib.Omega.{arith}
use mathlib.Core.List.{List, ◌++◌}
use mathlib.Core.Path.{◌≡◌, refl, ap, ◌∙◌}
use Rattle.std.proofs.Common.{Result}
use lib.ListN.{length, drop, drop_of_length-le}
use borrow.Rule.Slice.PartMut.{put_mid}
use borrow.Author.Tests.{eq-eqb, ne_eqb}
use Rattle.tracefile.specs.Refusals as R
use Rattle.tracefile.specs.declared.Refusal.{Refusal as FileRefusal}
use Rattle.tracefile.specs.declared.Refusal.TheVariants.{Length, Edition, Tablets, Values, Bodies, Contents, BadRecord, Trace}
use Rattle.verdict.specs.Judged.{judged, room_judged, told}
use Rattle.verdict.specs.declared.Verdict.{Verdict}
use Rattle.verdict.specs.declared.Refusal.{Refusal}
use Rattle.console.specs.Called.{handed_by, four_bytes, area_of, status, room_after, area_after}
use Rattle.console.specs.declared.Handed.{Handed}

-- the number of a refusal of a file is small
pub number_small : (r : FileRefusal) (number place : ℕ) → R.refused number place ≡ R.refusal r → number ≤ 8
number_small Length number place h = let e : number ≡ 1 = cc in omega arith
number_small Edition number place h = let e : number ≡ 2 = cc in omega arith
number_small Tablets number place h = let e : number ≡ 3 = cc in omega arith
number_small Values number place h = let e : number ≡ 4 = cc in omega arith
number_small Bodies number place h = let e : number ≡ 5 = cc in omega arith
number_small (Contents at) number place h = let e : number ≡ 6 = cc in omega arith
number_small (BadRecord at) number place h = let e : number ≡ 7 = cc in omega arith
number_small Trace number place h = let e : number ≡ 8 = cc in omega arith

-- the area is filled in three parts, whatever it held
pub filled : (area : List ℕ) (x y z : ℕ)
    → put_mid 8 (length (put_mid 4 4 (four_bytes x ++ drop 4 area) (four_bytes y)) - 8) (put_mid 4 4 (four_bytes x ++ drop 4 area) (four_bytes y)) (four_bytes z)
    ≡ four_bytes x ++ (four_bytes y ++ four_bytes z)
filled area x y z =
    let rest = drop 4 (drop 4 area) in
    ap (λ (l : List ℕ). four_bytes x ++ (four_bytes y ++ (four_bytes z ++ l))) (drop_of_length-le rest {i = length (four_bytes x ++ (four_bytes y ++ rest)) - 8} (omega arith))

module _ (file : List ℕ) (trace budget : ℕ) (room_lent area_lent : List ℕ) where
  abbrev pub Handing : ℕ → List ℕ → List ℕ → Type 0
  Handing answer room_left area_left =
      record { result : answer ≡ status file trace budget room_lent area_lent; room : room_left ≡ room_after file trace budget room_lent area_lent; area : area_left ≡ area_after file trace budget room_lent area_lent }

  -- an area not of 12 bytes
  pub wrong_area : (length area_lent ≡ 12 → ⊥) → Handing 19 room_lent area_lent
  unfolding status room_after area_after
  wrong_area h = let e = ne_eqb (length area_lent) 12 h in record { result = rw e refl; room = rw e refl; area = rw e refl }

  -- any other: what is said is handed back
  pub right_area : length area_lent ≡ 12 → (said : Result Verdict Refusal) (handed : Handed) (room_left area_left : List ℕ)
      → handed ≡ handed_by (told said) → told said ≡ judged file trace budget (length room_lent) → room_left ≡ room_judged file trace budget room_lent
      → area_left ≡ area_of handed → Handing handed.status room_left area_left
  unfolding status room_after area_after
  right_area h said handed room_left area_left e s r all =
      let t = eq-eqb (length area_lent) 12 h in
      let q : handed ≡ handed_by (judged file trace budget (length room_lent)) = e ∙ ap handed_by s in
      record { result = rw t (ap (λ (x : Handed). x.status) q); room = rw t r; area = rw t (all ∙ ap area_of q) }
