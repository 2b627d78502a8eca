-- `lines::pieces::Line::put` meets its contract: the words are copied, or do not fit.
-- Assumes nothing.
use native.Mathlib.Omega.{arith}
use mathlib.Core.Path.{refl}
use Rattle.lines.proofs.Putting.{left_out, words_put}
use Rattle.lines.proofs.pieces.Line.put.Goals as goal

pub returns-then-self-size : goal.returns-then-self-size
returns-then-self-size c = record { same = refl; put = left_out _ _ _ _ _ (omega arith) }

pub returns-then-self-size-2 : goal.returns-then-self-size-2
returns-then-self-size-2 c = record { same = refl; put = left_out _ _ _ _ _ (omega arith) }

pub returns : goal.returns
returns c = record { same = refl; put = words_put _ _ _ _ (omega arith) c.copy_from_slice.ensures.after }
