-- The values of a set, put one after the other; the lines of records; and that they are short.
-- Assumes nothing.
use mathlib.Core.Bool.{Bool, true, false, cond}
use mathlib.Core.List.{[], ◌++◌}
use mathlib.Core.Path.{◌≡◌, refl}
use Prim.Native.Nat.{ℕ, zero, suc, ◌+◌, ◌-◌, ◌*◌, ◌^◌, ◌≤◌, ◌<◌}
use native.Mathlib.Omega.{arith}
use lib.Dec.{eqb}
use lib.ListN.{length, length-append}
use borrow.Author.Tests.{ne_eqb, eqb-false}
use Rattle.marks.specs.Sets.{has, lowest}
use Rattle.marks.proofs.Laws.{lowest_below}
use Rattle.records.specs.declared.Record.{Record}
use Rattle.lines.specs.Words.{words}
use Rattle.lines.specs.Text.{decimal, line_end}
use Rattle.lines.specs.Notation.{later_values, values_text, found_text, record_text, record_room}
use Rattle.lines.proofs.Decimal.{two_digits, ten_digits}

-- ---- one value after the other

-- the values of a set that is not empty: the lowest, and then the later ones
pub some_values : (set low : ℕ) → (set ≡ 0 → ⊥) → low ≡ lowest 64 set → decimal low ++ later_values set (low + 1) (64 - (low + 1)) ≡ values_text set
unfolding values_text
some_values set low some e =
    let left : 64 - (low + 1) ≡ 63 - low = omega arith in rw (ne_eqb set 0 some, left, e)

-- what is left to put from a value on: with it, if it is there, and without it otherwise
pub with_value : (set value : ℕ) → value < 64 → has set value ≡ true
    → later_values set value (64 - value) ≡ (words "," ++ decimal value) ++ later_values set (value + 1) (64 - (value + 1))
unfolding later_values
with_value set value h t =
    let e : 64 - value ≡ suc (64 - (value + 1)) = omega arith in rw (e, t)

pub without_value : (set value : ℕ) → value < 64 → has set value ≡ false
    → later_values set value (64 - value) ≡ later_values set (value + 1) (64 - (value + 1))
unfolding later_values
without_value set value h t =
    let e : 64 - value ≡ suc (64 - (value + 1)) = omega arith in rw (e, t)

pub none_left : (set value : ℕ) → 64 ≤ value → later_values set value (64 - value) ≡ []
unfolding later_values
none_left set value h =
    let e : 64 - value ≡ zero = omega arith in rw e

-- ---- how long it can be

later_few : (set i left : ℕ) → i + left ≤ 64 → length (later_values set i left) ≤ 3 * left
unfolding later_values
later_few set i zero h = omega arith
later_few set i (suc left) h = go (has set i) (later_few set (i + 1) left (omega arith)) (two_digits i (omega arith))
  where
    go : (t : Bool) → length (later_values set (i + 1) left) ≤ 3 * left → length (decimal i) ≤ 2
        → length (cond t ((words "," ++ decimal i) ++ later_values set (i + 1) left) (later_values set (i + 1) left)) ≤ 3 * suc left
    go true l d = simp length-append (omega arith)
    go false l d = omega arith

values_few : (set : ℕ) → set < 2 ^ 64 → length (values_text set) ≤ 191
unfolding values_text
values_few set b = go (eqb set 0) refl
  where
    go : (t : Bool) → eqb set 0 ≡ t → length (cond t [] (decimal (lowest 64 set) ++ later_values set (lowest 64 set + 1) (63 - lowest 64 set))) ≤ 191
    go true e = omega arith
    go false e =
        let some = eqb-false set 0 e in
        let l = lowest_below 64 set b (omega arith) in
        simp length-append (omega (arith, two_digits (lowest 64 set) l, later_few set (lowest 64 set + 1) (63 - lowest 64 set) (omega arith)))

pub record_few : (given : Record) → given.set < 2 ^ 64 → length (record_text given) ≤ record_room
unfolding record_text found_text
record_few given c = go (eqb given.kind 1) (eqb given.kind 2) (eqb given.kind 3) (ten_digits given.tablet) (ten_digits given.new) (ten_digits given.seen) (values_few given.set c)
  where
    go : (x y z : Bool) → length (decimal given.tablet) ≤ 10 → length (decimal given.new) ≤ 10 → length (decimal given.seen) ≤ 10 → length (values_text given.set) ≤ 191
        → length (cond x (words "R" ++ (decimal given.tablet ++ (words " " ++ (decimal given.seen ++ line_end))))
        (cond y (words "W" ++ (decimal given.tablet ++ (words " " ++ (decimal given.new ++ (words "<" ++ (decimal given.seen ++ line_end))))))
        (cond z (words "S(" ++ (decimal given.seen ++ (words ",{" ++ (values_text given.set ++ (words "})" ++ line_end))))) (words "SF" ++ line_end)))) ≤ record_room
    go true y z dt dn ds v = simp length-append (omega arith)
    go false true z dt dn ds v = simp length-append (omega arith)
    go false false true dt dn ds v = simp length-append (omega arith)
    go false false false dt dn ds v = omega arith
