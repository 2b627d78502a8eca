-- Document 01, the file of case D, in bytes: the head, the one entry, and two records.
use Rattle.std.specs.Prelude.{ℕ, List, [], ◌∷◌, ◌++◌}

abbrev pub eight_zeros : List ℕ
eight_zeros = 0 ∷ 0 ∷ 0 ∷ 0 ∷ 0 ∷ 0 ∷ 0 ∷ 0 ∷ []

abbrev pub records_of_d : List ℕ
records_of_d = (0x02 ∷ 0x01 ∷ 0x01 ∷ 0x00 ∷ []) ++ (eight_zeros ++ ((0x03 ∷ 0x00 ∷ 0x00 ∷ 0x01 ∷ []) ++ eight_zeros))

abbrev pub file_of_d : List ℕ
file_of_d = (0x01 ∷ 0x01 ∷ 0x02 ∷ 0x01 ∷ 0x08 ∷ 0x00 ∷ 0x02 ∷ 0x00 ∷ []) ++ records_of_d
