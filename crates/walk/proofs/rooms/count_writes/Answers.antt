-- `walk::rooms::count_writes` meets its contract: the records that say a WRITE are counted.
-- Assumes nothing.
use mathlib.Core.List.{List}
use mathlib.Core.Path.{ap, ◌∙◌}
use Prim.Native.Nat.{ℕ}
use native.Mathlib.Omega.{arith}
use borrow.Author.Tests.{tests}
use borrow.Author.Rules.{rules}
use Rattle.std.proofs.lemmas.Iterator.{YieldsList-from_slice}
use Rattle.std.proofs.lemmas.Iterator.Consumers.{YieldsList-from_filter, count_from_yields_List}
use Rattle.std.proofs.lemmas.List.Sums.{length-filter}
use Rattle.std.specs.List.{count_by}
use Rattle.records.specs.Records.{observations}
use Rattle.walk.proofs.Whole.{says_write, writes_counted}
use Rattle.walk.proofs.rooms.count_writes.Goals as goal

pub returns : goal.returns
unfolding observations
returns c =
    count_from_yields_List _ _ c.count.ensures.ran (YieldsList-from_filter _ says_write (YieldsList-from_slice c.as_chunks.result.0.now cc) c.filter.ensures.closure (λ x r q k. search (rules, tests)))
    ∙ length-filter says_write c.as_chunks.result.0.now ∙ ap (λ (xs : List (List ℕ)). count_by says_write xs) c.as_chunks.ensures.front ∙ writes_counted _ _ (omega arith)
