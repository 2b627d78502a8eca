-- `cases::stands` meets its contract: what follows the front has the pattern.
-- Assumes nothing.
use borrow.Author.Rules.{rules}
use mathlib.Core.Path.{ap, ◌∙◌}
use Prim.Native.Nat.{ℕ}
use lib.Dec.{eqb}
use Rattle.std.specs.List.{list_all}
use Rattle.std.proofs.lemmas.Iterator.{YieldsList-from_slice}
use Rattle.std.proofs.lemmas.Iterator.Search.{all_from_yields_List}
use Rattle.cases.specs.Packed.{pattern}
use Rattle.cases.proofs.Packed.{begins}
use Rattle.cases.proofs.stands.Goals as goal

pub returns-in-Some : goal.returns-in-Some
returns-in-Some c =
    let marked = λ (byte : ℕ). eqb byte pattern in
    begins _ _ _ c.in-Some.ensures.cases.0
    (all_from_yields_List marked _ _ _ c.all.ensures.ran (YieldsList-from_slice _ c.iter.ensures.rest) (λ x b q k. search rules)
    ∙ ap (list_all marked) c.in-Some.ensures.cases.1)
