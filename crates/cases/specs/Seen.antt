-- What is seen of a case, and of the cases that are left.
use Rattle.std.specs.Prelude.{ℕ, List}
use Rattle.cases.specs.declared.Case.{Case}
use Rattle.cases.specs.declared.Cases.{Cases}
use Rattle.cases.specs.Packed.{cases_in}

-- the bytes of a case
abbrev pub packed_of : Case → List ℕ
packed_of case = case.packed.now

-- the bytes of each case that is left
abbrev pub cases_left : Cases → List (List ℕ)
cases_left cases = cases_in cases.rest.now
