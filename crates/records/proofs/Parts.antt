-- Records and numbers read in a part of a file are those of the file further on.
-- Assumes nothing.
use mathlib.Core.Bool.{true}
use mathlib.Core.List.{List}
use mathlib.Core.Path.{◌≡◌, refl, sym, ap, ap₂, ◌∙◌, subst}
use Prim.Native.Nat.{ℕ, zero, suc, ◌+◌, ◌*◌, ◌≤◌}
use native.Mathlib.Nat.{add_assoc, add-zero}
use native.Mathlib.Decide.{dec_le}
use native.Mathlib.Omega.{arith}
use lib.Dec.{leb, leb→le}
use lib.ListN.{length, take, drop, length-drop}
use lib.Seq.{get_or-drop}
use Rattle.std.proofs.Common.{T}
use Rattle.std.proofs.lemmas.List.{get_or-take, length-take-le}
use borrow.Author.Tests.{le-leb, lt-leb}
use Rattle.records.specs.Bytes.{number}
use Rattle.records.specs.Records.{record_at}

number_drop : (f : List ℕ) (s at k : ℕ) → number (drop s f) at k ≡ number f (s + at) k
unfolding number
number_drop f s at zero = refl
number_drop f s at (suc k) =
    ap₂ (λ (a b : ℕ). a + 256 * b) (get_or-drop s f at 0)
    (number_drop f s (at + 1) k ∙ ap (λ (x : ℕ). number f x k) (sym (add_assoc s at 1)))

fits_drop : (f : List ℕ) (s at : ℕ) → s ≤ length f → leb (at + 12) (length (drop s f)) ≡ leb (s + at + 12) (length f)
fits_drop f s at h =
    let l = length-drop s f in
    elim (dec_le (s + at + 12) (length f)) [
      | yes g ↦ le-leb (at + 12) (length (drop s f)) (omega arith) ∙ sym (le-leb (s + at + 12) (length f) g)
      | no g ↦ lt-leb (at + 12) (length (drop s f)) (omega arith) ∙ sym (lt-leb (s + at + 12) (length f) (omega arith))
    ]

pub record_drop : (f : List ℕ) (s at : ℕ) → s ≤ length f → record_at (drop s f) at ≡ record_at f (s + at)
unfolding record_at
record_drop f s at h =
    rw (
      fits_drop f s at h,
      number_drop f s (at + 4) 8,
      get_or-drop s f at 0,
      get_or-drop s f (at + 1) 0,
      get_or-drop s f (at + 2) 0,
      get_or-drop s f (at + 3) 0,
      ← add_assoc s at 4,
      ← add_assoc s at 1,
      ← add_assoc s at 2,
      ← add_assoc s at 3,
    )

number_take : (f : List ℕ) (m at k : ℕ) → at + k ≤ m → number (take m f) at k ≡ number f at k
unfolding number
number_take f m at zero h = refl
number_take f m at (suc k) h =
    ap₂ (λ (a b : ℕ). a + 256 * b) (get_or-take m f at 0 (omega arith)) (number_take f m (at + 1) k (omega arith))

record_take : (f : List ℕ) → 12 ≤ length f → record_at (take 12 f) 0 ≡ record_at f 0
unfolding record_at
record_take f h =
    rw (
      length-take-le 12 f h,
      le-leb 12 (length f) h,
      number_take f 12 4 8 (omega arith),
      get_or-take 12 f 0 0 (omega arith),
      get_or-take 12 f 1 0 (omega arith),
      get_or-take 12 f 2 0 (omega arith),
      get_or-take 12 f 3 0 (omega arith),
    )

-- the record at a place is that of the 12 bytes there
pub record_part : (f : List ℕ) (at : ℕ) → leb (at + 12) (length f) ≡ true → record_at (take 12 (drop at f)) 0 ≡ record_at f at
record_part f at h =
    let long : at + 12 ≤ length f = leb→le (at + 12) (length f) (subst T (sym h) tt) in
    let l = length-drop at f in
    record_take (drop at f) (omega arith) ∙ record_drop f at 0 (omega arith) ∙ ap (record_at f) (add-zero at)
