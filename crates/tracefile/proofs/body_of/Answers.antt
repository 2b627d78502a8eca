-- `tracefile::body_of` meets its contract: the part that it hands back is within the file.
-- Assumes nothing.
use mathlib.Core.Path.{sym}
use native.Mathlib.Omega.{arith}
use Rattle.tracefile.proofs.Good.{there}
use Rattle.tracefile.proofs.body_of.Goals as goal

pub overflow_mul-entry : goal.overflow_mul-entry
overflow_mul-entry c = let t = there _ _ (sym c.in_ok-check_asked.ensures) in omega arith

pub overflow_add-entry : goal.overflow_add-entry
overflow_add-entry c = let t = there _ _ (sym c.in_ok-check_asked.ensures) in omega arith
