-- What the answers of a test come to.
use Rattle.std.specs.Prelude.{◌≡◌, ℕ, Bool, false, not, List, map, count_by, Option, Some, None, is_some}
use Rattle.std.specs.List.{AllZip}
use Rattle.cases.specs.declared.Case.{Case}
use Rattle.cases.specs.declared.Tally.{Tally}
use Rattle.cases.specs.Seen.{packed_of}

-- the case is one that the test is about, and differs
abbrev pub differs : Option Bool → Bool
differs None = false
differs (Some agrees) = not agrees

-- what answers come to
abbrev pub tally_of : List (Option Bool) → Tally
tally_of answers = record { cases = count_by is_some answers; differ = count_by differs answers }

-- a test gives an answer for each of these cases, and the tally is what they come to
pub record Comes (gives : Case → Option Bool → Type 0) (cases : List Case) (tally : Tally) : Type 0 where
  pub answers : List (Option Bool)
  pub each : AllZip gives cases answers
  pub come_to : tally ≡ tally_of answers

-- so it is of the cases that have these bytes
abbrev pub Tallies : (Case → Option Bool → Type 0) → List (List ℕ) → Tally → Type 0
Tallies gives packed tally = (cases : List Case) × (map packed_of cases ≡ packed) × Comes gives cases tally
