-- Counts against record bytes, count by count: whether some count is over 256 or the bytes are not 12 times the sum, asked
-- of what is left of both.
-- Assumes nothing.
use mathlib.Core.Bool.{Bool, false, not, ◌||◌, or-true, or_assoc}
use mathlib.Core.List.{List, ◌∷◌}
use mathlib.Core.Path.{◌≡◌, sym, ◌∙◌}
use Prim.Native.Nat.{ℕ, suc, ◌+◌, ◌*◌, ◌-◌, ◌≤◌, ◌<◌}
use native.Mathlib.Decide.{ℕ_discrete, dec_lt}
use native.Mathlib.Numerals.{add-one}
use native.Mathlib.Omega.{arith}
use lib.Dec.{ltb, eqb}
use lib.ListN.{length, get_or, drop, drop_of_length-le}
use lib.Seq.{drop-cons}
use borrow.Author.Tests.{lt-ltb, le-ltb, eq-eqb, ne_eqb}
use Rattle.tracefile.specs.File.{most, record_size}
use Rattle.writer.specs.Written.{sum, over}

-- some count is over 256, or the bytes are not 12 times the sum
abbrev pub wrong : List ℕ → ℕ → Bool
wrong counts bytes = over counts || not (eqb bytes (record_size * sum counts))

-- two tests of equality answer alike where each equation gives the other
alike : (a b x y : ℕ) → (a ≡ b → x ≡ y) → (x ≡ y → a ≡ b) → eqb a b ≡ eqb x y
alike a b x y f g =
    elim (ℕ_discrete a b) [
      | yes e ↦ eq-eqb a b e ∙ sym (eq-eqb x y (f e))
      | no h ↦ ne_eqb a b h ∙ sym (ne_eqb x y (λ e. h (g e)))
    ]

-- the counts that are left begin with the next one: it is over 256, or its body is longer than the bytes that are left, or
-- its body is taken off
pub counts_on : (counts : List ℕ) (i left : ℕ) → i < length counts
    → wrong (drop i counts) left
    ≡ (ltb most (get_or counts i 0) || (ltb left (record_size * get_or counts i 0) || wrong (drop (i + 1) counts) (left - record_size * get_or counts i 0)))
unfolding over sum
counts_on counts i left here =
    let rest = drop (suc i) counts in
    let count = get_or counts i 0 in
    rw (add-one, drop-cons counts i 0 here)
    (elim (dec_lt left (record_size * count)) [
      | yes h ↦
          (let longer : eqb left (record_size * (count + sum rest)) ≡ false = ne_eqb _ _ (λ e. omega arith) in
          rw (longer, lt-ltb left (record_size * count) h, or-true (over (count ∷ rest)), or-true (ltb most count)))
      | no h ↦
          (let same : eqb left (record_size * (count + sum rest)) ≡ eqb (left - record_size * count) (record_size * sum rest) =
          alike _ _ _ _ (λ e. omega arith) (λ e. omega arith) in
          rw (same, le-ltb left (record_size * count) (omega arith)) (or_assoc (ltb most count) (over rest) _))
    ])

-- with no count left no bytes may be left
pub counts_end : (counts : List ℕ) (i left : ℕ) → length counts ≤ i → wrong (drop i counts) left ≡ not (eqb left 0)
unfolding over sum
counts_end counts i left h = rw (drop_of_length-le counts h)

pub ruleset counts_steps = (counts_on, counts_end)
