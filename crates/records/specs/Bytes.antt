-- Bytes and numbers of a file. All numbers stand least byte first.
use Rattle.std.specs.Prelude.{ℕ, zero, suc, ◌+◌, ◌*◌, List, get_or}

-- the byte at a place, and 0 past the end
abbrev pub byte : List ℕ → ℕ → ℕ
byte f at = get_or f at 0

-- the number in the k bytes from a place on
unfoldable pub number : List ℕ → ℕ → ℕ → ℕ
number f at zero = 0
number f at (suc k) = byte f at + 256 * number f (at + 1) k
