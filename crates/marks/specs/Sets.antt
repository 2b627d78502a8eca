-- Sets of small numbers as the bits of one number: bit i stands for the number i. The definitions know no width but where
-- a number is put in or taken out: at or past the width there is no bit, and nothing changes.
use Rattle.std.specs.Prelude.{ℕ, ◌-◌, ◌/◌, ◌%◌, ◌^◌, Bool, cond, ltb, eqb}
use Rattle.std.specs.Int.Bits.{bit_and, bit_or, bit_xor}
use Rattle.std.specs.Int.Count.{count_trailing_zeros}

-- i is in the set
unfoldable pub has : ℕ → ℕ → Bool
has set i = eqb (set / 2 ^ i % 2) 1

-- the set with i put in, of the numbers below width
unfoldable pub add : ℕ → ℕ → ℕ → ℕ
add width set i = cond (ltb i width) (bit_or set (2 ^ i)) set

-- the set with i taken out, of the numbers below width
unfoldable pub remove : ℕ → ℕ → ℕ → ℕ
remove width set i = cond (ltb i width) (bit_xor (bit_or set (2 ^ i)) (2 ^ i)) set

-- the set without any number but i
unfoldable pub only : ℕ → ℕ → ℕ
only set i = bit_and set (2 ^ i)

-- every number below k
unfoldable pub full : ℕ → ℕ
full k = 2 ^ k - 1

-- the smallest number in the set, and the width where there is none
unfoldable pub lowest : ℕ → ℕ → ℕ
lowest width set = count_trailing_zeros width set
