-- `events::first` meets its contract: the marks of all seats are the full set.
-- Assumes nothing.
use mathlib.Core.Path.{◌≡◌, ◌∙◌}
use Prim.Native.Nat.{ℕ, ◌*◌, ◌%◌, ◌^◌, ◌≤◌, ◌<◌}
use native.Mathlib.Nat.{one-mul}
use native.Mathlib.Omega.{arith}
use lib.Dec.{lit<}
use lib.Pow.{shl_exact}
use Rattle.marks.specs.Sets.{full}
use Rattle.model.specs.Model.{first_state, seats}
use Rattle.events.proofs.first.Goals as goal

-- a bit within the width is not shifted out
one_shifted : (k : ℕ) → k < 8 → 1 * 2 ^ k % 256 ≡ 2 ^ k
one_shifted k h = shl_exact 1 k 8 (lit< tt) (omega arith) ∙ one-mul (2 ^ k)

eight : (n : ℕ) → 8 ≤ seats n → seats n ≡ 8
unfolding seats
eight n h = omega arith

pub returns-then-count-lt8 : goal.returns-then-count-lt8
unfolding first_state full
returns-then-count-lt8 c = rw (one_shifted _ c.if-count-lt8.true, c.seats_of-count.ensures)

pub returns-else-count-lt8 : goal.returns-else-count-lt8
unfolding first_state full
returns-else-count-lt8 c =
    let all : seats c.args.n ≡ 8 = eight c.args.n (rw c.seats_of-count.ensures at c.if-count-lt8.false) in
    rw all
