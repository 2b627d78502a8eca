-- Cases packed into bytes: numbers and parts, and what bytes lent for writing hold afterwards.
use Rattle.std.specs.Prelude.{ℕ, zero, suc, ◌+◌, Bool, true, cond, ◌&&◌, List, [], ◌∷◌, leb, eqb, length, take, drop, get_or}
use Rattle.records.specs.Bytes.{number}

-- the number in the four bytes at a place, and 0 where there are fewer
unfoldable pub number_at : List ℕ → ℕ → ℕ
number_at packed at = cond (leb (at + 4) (length packed)) (number packed at 4) 0

-- so many bytes from a place on, and none where there are fewer
unfoldable pub part_at : List ℕ → ℕ → ℕ → List ℕ
part_at packed start size = cond (leb (start + size) (length packed)) (take size (drop start packed)) []

-- the part whose start and length stand at a place of the head
unfoldable pub held_at : List ℕ → ℕ → List ℕ
unfolding number_at part_at
held_at packed at = part_at packed (number_at packed at) (number_at packed (at + 4))

-- what every byte that is lent for writing is beforehand
abbrev pub pattern : ℕ
pattern = 0xa5

-- bytes are those at the front as far as they go, and then the pattern
unfoldable pub follows : List ℕ → List ℕ → Bool
follows front [] = true
follows front (byte ∷ rest) = eqb byte (get_or front 0 pattern) && follows (drop 1 front) rest

-- they have all of the front
unfoldable pub stands_in : List ℕ → List ℕ → Bool
unfolding follows
stands_in front bytes = leb (length front) (length bytes) && follows front bytes

-- the cases that are packed one after the other, at most so many: each is as long as its first number says, and they end where
-- that is 0 or more than is left
unfoldable pub cases_within : ℕ → List ℕ → List (List ℕ)
cases_within zero packed = []
cases_within (suc most) packed =
    let size = number_at packed 0 in
    cond (leb 1 size && leb size (length packed)) (take size packed ∷ cases_within most (drop size packed)) []

-- all of them: each has a byte at least, so there are no more than bytes
unfoldable pub cases_in : List ℕ → List (List ℕ)
unfolding cases_within
cases_in packed = cases_within (length packed) packed
