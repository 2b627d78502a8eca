-- Quoted words in bytes: each letter by its code, which is its byte for the plain letters, digits and signs used here.
use Rattle.std.specs.Prelude.{ℕ, List}
use Prim.Native.Char.{code}
use Prim.Native.String.{String, [], ◌∷◌}
use mathlib.Core.List as L

abbrev pub words : String → List ℕ
words [] = L.[]
words (letter ∷ rest) = L.◌∷◌ (code letter) (words rest)
