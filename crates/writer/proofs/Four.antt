-- Four bytes of a file.
-- Assumes nothing.
use mathlib.Core.List.{List, ◌∷◌}
use mathlib.Core.Path.{◌≡◌, sym, ap, ◌∙◌}
use Prim.Native.Nat.{ℕ, ◌+◌, ◌≤◌, ◌<◌}
use native.Mathlib.Nat.{add_assoc}
use native.Mathlib.Numerals.{add-one}
use native.Mathlib.Omega.{arith}
use lib.ListN.{length, drop}
use lib.Seq.{drop-cons}
use Rattle.records.specs.Bytes.{byte}

-- four bytes of a file, and what stands after them
pub four : (f : List ℕ) (at : ℕ) → at + 4 ≤ length f
    → drop at f ≡ byte f at ∷ byte f (at + 1) ∷ byte f (at + 2) ∷ byte f (at + 3) ∷ drop (at + 4) f
four f at h =
    one at (omega arith)
    ∙ ap (λ (l : List ℕ). byte f at ∷ l) (one (at + 1) (omega arith) ∙ ap (λ (x : ℕ). byte f (at + 1) ∷ drop x f) (add_assoc at 1 1)
    ∙ ap (λ (l : List ℕ). byte f (at + 1) ∷ l) (one (at + 2) (omega arith) ∙ ap (λ (x : ℕ). byte f (at + 2) ∷ drop x f) (add_assoc at 2 1)
    ∙ ap (λ (l : List ℕ). byte f (at + 2) ∷ l) (one (at + 3) (omega arith) ∙ ap (λ (x : ℕ). byte f (at + 3) ∷ drop x f) (add_assoc at 3 1))))
  where
    one : (j : ℕ) → j < length f → drop j f ≡ byte f j ∷ drop (j + 1) f
    one j l = drop-cons f j 0 l ∙ ap (λ (x : ℕ). byte f j ∷ drop x f) (sym (add-one j))
