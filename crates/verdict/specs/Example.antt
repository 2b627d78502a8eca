-- The file of case E: one tablet, two values, one trace of one failed STABILIZE.
use Rattle.std.specs.Prelude.{ℕ, List, [], ◌∷◌, ◌++◌}
use Rattle.tracefile.specs.Example.{eight_zeros}

abbrev pub file_of_e : List ℕ
file_of_e = (0x01 ∷ 0x01 ∷ 0x02 ∷ 0x01 ∷ 0x08 ∷ 0x00 ∷ 0x01 ∷ 0x00 ∷ []) ++ ((0x04 ∷ 0x00 ∷ 0x00 ∷ 0x00 ∷ []) ++ eight_zeros)
