-- Each kind has a byte of its own, and each byte at most one kind: the two tables say the same.
-- Assumes nothing.
use Rattle.std.proofs.Common.{◌≡◌, ℕ, Ok, refl, arith}
use Rattle.std.proofs.lemmas.Bool.Decides.{nat_tests}
use Rattle.model.specs.Kinds.{kind_of, code_of}
use Rattle.model.specs.declared.Kind.{Kind}
use Rattle.model.specs.declared.Kind.TheVariants.{Read, Write, Stabilize, Failed, Up, Down}

-- a kind's byte stands for that kind
pub kind_of_code : (k : Kind) → kind_of (code_of k) ≡ Ok k
kind_of_code Read = refl
kind_of_code Write = refl
kind_of_code Stabilize = refl
kind_of_code Failed = refl
kind_of_code Up = refl
kind_of_code Down = refl

-- a byte that stands for a kind is that kind's byte
pub code_of_kind : (b : ℕ) (k : Kind) → kind_of b ≡ Ok k → code_of k ≡ b
code_of_kind b k h = grind (arith, nat_tests)
