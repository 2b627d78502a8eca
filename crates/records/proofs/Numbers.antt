-- Numbers: what two bytes come to, and what a shift says of a bound.
-- Assumes nothing.
use mathlib.Core.Bool.{true}
use mathlib.Core.List.{List}
use mathlib.Core.Path.{◌≡◌, sym, ap, ◌∙◌}
use Prim.Native.Nat.{ℕ, ◌+◌, ◌*◌, ◌/◌, ◌^◌, ◌≤◌, ◌<◌}
use native.Mathlib.Nat.{add-zero, div-eq_of_lt, div-lt_iff_lt-mul, one-mul, lt_of_lt_of_le}
use native.Mathlib.Decide.{dec_lt}
use native.Mathlib.Omega.{arith}
use lib.Dec.{ltb, eqb}
use lib.Pow.{pow_pos, pow_mono}
use borrow.Author.Tests.{lt-ltb, le-ltb, ne_eqb}
use Rattle.records.specs.Bytes.{byte, number}

-- two bytes, least first
pub number_2 : (f : List ℕ) (at : ℕ) → number f at 2 ≡ byte f at + 256 * byte f (at + 1)
unfolding number
number_2 f at = simp (add-zero)

-- nothing is left above bit v exactly where the set is below 2 ^ v
pub shifted_out : (set v : ℕ) → eqb (set / 2 ^ v) 0 ≡ ltb set (2 ^ v)
shifted_out set v =
    elim (dec_lt set (2 ^ v)) [
      | yes h ↦ ap (λ (x : ℕ). eqb x 0) (div-eq_of_lt h) ∙ sym (lt-ltb set (2 ^ v) h)
      | no h ↦
          ne_eqb (set / 2 ^ v) 0
          (λ e. h (rw one-mul at ((div-lt_iff_lt-mul {x = set} {y = 1} (pow_pos v)).0 (omega arith))))
          ∙ sym (le-ltb set (2 ^ v) (omega arith))
    ]

-- every number of 64 bits is below 2 ^ v for v from 64 up
pub all_below : (set v : ℕ) → set < 2 ^ 64 → 64 ≤ v → true ≡ ltb set (2 ^ v)
all_below set v h l = sym (lt-ltb set (2 ^ v) (lt_of_lt_of_le h (pow_mono l)))
