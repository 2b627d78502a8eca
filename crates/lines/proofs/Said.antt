-- How long an answer and a refusal can be.
-- Assumes nothing.
use Prim.Native.Nat.{ℕ, ◌≤◌}
use native.Mathlib.Omega.{arith}
use lib.ListN.{length, length-append}
use Rattle.verdict.specs.Judged.{Said, explained_by, unexplained_in, undecided_at, refused}
use Rattle.tracefile.specs.Refusals as R
use Rattle.lines.specs.Text.{refusal_text, refused_text, said_text, answer_text, heading_text}
use Rattle.lines.specs.Put.{line_room}
use Rattle.lines.proofs.Decimal.{ten_digits}

pub refusal_short : (number place : ℕ) → length (refusal_text number place) ≤ 33
unfolding refusal_text
refusal_short number place = simp length-append (omega (arith, ten_digits number, ten_digits place))

-- and the line of a refused file, if it is refused
pub refused_short : (a : R.Answer) → length (refused_text a) ≤ line_room
unfolding refused_text
refused_short R.accepted = omega arith
refused_short (R.refused number place) = omega (arith, refusal_short number place)

said_short : (s : Said) → length (said_text s) ≤ 46
unfolding said_text
said_short (explained_by points events) = simp length-append (omega (arith, ten_digits points, ten_digits events))
said_short (unexplained_in points) = simp length-append (omega (arith, ten_digits points))
said_short (undecided_at points) = simp length-append (omega (arith, ten_digits points))
said_short (refused number place) = omega (arith, refusal_short number place)

pub answer_short : (trace : ℕ) (s : Said) → length (answer_text trace s) ≤ line_room
unfolding answer_text
answer_short trace s = simp length-append (omega (arith, ten_digits trace, said_short s))

pub heading_short : (trace : ℕ) → length (heading_text trace) ≤ line_room
unfolding heading_text
heading_short trace = simp length-append (omega (arith, ten_digits trace))
