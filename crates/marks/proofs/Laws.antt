-- The laws of sets held as the bits of one number, each over every width at once: what is in a set after an operation, how
-- large the number is, that two sets with the same members are one, and what the machine's shifts come to. Assumes nothing.
use mathlib.Core.Path.{◌≡◌, refl, sym, ap, ap₂, ◌∙◌}
use mathlib.Core.Bool.{Bool, true, false, cond, ◌&&◌, ◌||◌, xor, true≢false, and-true, and-false, or-true, or-false}
use Prim.Native.Nat.{ℕ, zero, suc, min, max, ◌+◌, ◌*◌, ◌/◌, ◌%◌, ◌^◌, ◌≤◌, ◌<◌}
use native.Mathlib.Nat.{lt_of_le_of_lt, lt_of_lt_of_le, one-mul, mod-eq_of_lt}
use native.Mathlib.Decide.{dec_lt}
use native.Mathlib.Numerals.{add-one}
use native.Mathlib.Omega.{arith}
use lib.Arith.{lt-one}
use lib.Bits.{bit_and, bit_or, bit_xor, and_le_l, or_lt, or_zero_r, or_add_and, xor_zero_r, xor_add_and, xor_lt}
use lib.Dec.{ltb, eqb}
use lib.Pow.{pow_pos, pow_mono, pow-lt, shr_lt, ones_lt}
use borrow.Author.Tests.{lt-ltb, le-ltb}
use lib.Count.{count_trailing_zeros, under}
use Rattle.std.specs.Int.{bit_at}
use Rattle.std.proofs.lemmas.Nat.Bits.{bit_at_lowest, bit_at-suc, bit_at-zero, bit_at_and, bit_at_or, bit_at_xor, bit_at-pow_same, bit_at-pow_other, and_pow, bit_at_ones, bit_at-lt, same_from_bits_below, bit_at_above, bit_at_ones_above}
use Rattle.marks.specs.Sets.{has, add, remove, only, full, lowest}

-- ---- digits and members

-- the digit that stands for a truth
abbrev digit : Bool → ℕ
digit b = cond b 1 0

-- a digit is known by whether it is 1
binary : (n : ℕ) → n < 2 → n ≡ digit (eqb n 1)
binary zero h = refl
binary (suc zero) h = refl
binary (suc (suc n)) h = absurd (omega arith)

-- the digit at i is 1 where i is in the set, and 0 where it is not
digit_has : (s i : ℕ) → bit_at s i ≡ digit (has s i)
unfolding has
digit_has s i = binary (bit_at s i) (bit_at-lt s i)

-- a member, by its digit
has_by : (s i n : ℕ) → bit_at s i ≡ n → has s i ≡ eqb n 1
unfolding has
has_by s i n e = ap (λ d. eqb d 1) e

-- an operation that goes digit by digit goes member by member, by the four rows of its table
module _ (op on : ℕ → ℕ → ℕ) (f : Bool → Bool → Bool)
    (by_digit : (a b i : ℕ) → bit_at (op a b) i ≡ on (bit_at a i) (bit_at b i))
    (both : eqb (on 1 1) 1 ≡ f true true)
    (left : eqb (on 1 0) 1 ≡ f true false)
    (right : eqb (on 0 1) 1 ≡ f false true)
    (none : eqb (on 0 0) 1 ≡ f false false) where
  row : (x y : Bool) → eqb (on (digit x) (digit y)) 1 ≡ f x y
  row true true = both
  row true false = left
  row false true = right
  row false false = none

  by_member : (a b i : ℕ) → has (op a b) i ≡ f (has a i) (has b i)
  by_member a b i = has_by (op a b) i _ (by_digit a b i ∙ ap₂ on (digit_has a i) (digit_has b i)) ∙ row (has a i) (has b i)

-- what is in both sets
pub has_and : (a b i : ℕ) → has (bit_and a b) i ≡ (has a i && has b i)
has_and = by_member bit_and min ◌&&◌ bit_at_and refl refl refl refl

-- what is in either set
pub has_or : (a b i : ℕ) → has (bit_or a b) i ≡ (has a i || has b i)
has_or = by_member bit_or max ◌||◌ bit_at_or refl refl refl refl

-- what is in one set and not in the other
pub has_xor : (a b i : ℕ) → has (bit_xor a b) i ≡ xor (has a i) (has b i)
unfolding xor
has_xor = by_member bit_xor (λ x y. (x + y) % 2) xor bit_at_xor refl refl refl refl

-- ---- the empty set, a number by itself, and the full set

-- nothing is in the empty set
pub has_empty : (i : ℕ) → has 0 i ≡ false
has_empty i = has_by 0 i 0 (bit_at-zero i)

-- nothing at or past the width is in a set
pub has_past : (w s i : ℕ) → s < 2 ^ w → w ≤ i → has s i ≡ false
has_past w s i b l = has_by s i 0 (bit_at_above s w i b l)

-- the set of i alone has i
pub has_one_same : (i : ℕ) → has (2 ^ i) i ≡ true
has_one_same i = has_by (2 ^ i) i 1 (bit_at-pow_same i)

-- narrowed to i, a set has i where it had it
pub has_only_same : (s i : ℕ) → has (only s i) i ≡ has s i
unfolding only
has_only_same s i = simp (has_and, has_one_same, and-true)

-- the set of i alone has nothing else
pub has_one_other : (i j : ℕ) → (j ≡ i → ⊥) → has (2 ^ i) j ≡ false
has_one_other i j ne = has_by (2 ^ i) j 0 (bit_at-pow_other i j ne)

-- narrowed to i, a set has nothing else
pub has_only_other : (s i j : ℕ) → (j ≡ i → ⊥) → has (only s i) j ≡ false
unfolding only
has_only_other s i j ne = simp (has_and, has_one_other i j ne, and-false)

-- the full set has every number below its end
pub has_full : (k i : ℕ) → i < k → has (full k) i ≡ true
unfolding full
has_full k i h = has_by (full k) i 1 (bit_at_ones k i h)

-- the full set has no number from its end on
pub not_has_full : (k i : ℕ) → k ≤ i → has (full k) i ≡ false
unfolding full
not_has_full k i l = has_by (full k) i 0 (bit_at_ones_above k i l)

-- ---- putting in and taking out

-- what holds of a where i is below the width, and of b where it is not, holds of the one chosen
choice : (P : ℕ → Type 0) (w i : ℕ) {a b : ℕ} → (i < w → P a) → (w ≤ i → P b) → P (cond (ltb i w) a b)
choice P w i f g = elim (dec_lt i w) [ yes h ↦ rw lt-ltb (f h) | no h ↦ rw (le-ltb i w (omega arith)) (g (omega arith)) ]

xor_false : (b : Bool) → xor b false ≡ b
unfolding xor
xor_false true = refl
xor_false false = refl

-- put in, i is there
pub has_add_same : (w s i : ℕ) → i < w → has (add w s i) i ≡ true
unfolding add
has_add_same w s i h = simp (lt-ltb i w h, has_or, has_one_same, or-true)

-- putting i in changes nothing else
pub has_add_other : (w s i j : ℕ) → (j ≡ i → ⊥) → has (add w s i) j ≡ has s j
unfolding add
has_add_other w s i j ne =
    choice (λ n. has n j ≡ has s j) w i (λ h. simp (has_or, has_one_other i j ne, or-false)) (λ l. refl)

-- taken out, i is not there
pub has_remove_same : (w s i : ℕ) → i < w → has (remove w s i) i ≡ false
unfolding remove xor
has_remove_same w s i h = simp (lt-ltb i w h, has_xor, has_or, has_one_same, or-true)

-- taking i out changes nothing else
pub has_remove_other : (w s i j : ℕ) → (j ≡ i → ⊥) → has (remove w s i) j ≡ has s j
unfolding remove
has_remove_other w s i j ne =
    choice (λ n. has n j ≡ has s j) w i (λ h. simp (has_xor, has_or, has_one_other i j ne, or-false, xor_false)) (λ l. refl)

-- ---- bounds: a set of numbers below the width is a number of that many bits

-- the full set up to the width, or to less
pub full_below : (k w : ℕ) → k ≤ w → full k < 2 ^ w
unfolding full
full_below k w l = lt_of_lt_of_le (ones_lt k) (pow_mono l)

-- a set narrowed to one number
pub only_below : (w s i : ℕ) → s < 2 ^ w → only s i < 2 ^ w
unfolding only
only_below w s i b = lt_of_le_of_lt (and_le_l s (2 ^ i)) b

-- a set with a number put in
pub add_below : (w s i : ℕ) → s < 2 ^ w → add w s i < 2 ^ w
unfolding add
add_below w s i b = choice (λ n. n < 2 ^ w) w i (λ h. or_lt w s (2 ^ i) b (pow-lt h)) (λ l. b)

-- a set with a number taken out
pub remove_below : (w s i : ℕ) → s < 2 ^ w → remove w s i < 2 ^ w
unfolding remove
remove_below w s i b =
    choice (λ n. n < 2 ^ w) w i (λ h. xor_lt w (bit_or s (2 ^ i)) (2 ^ i) (or_lt w s (2 ^ i) b (pow-lt h)) (pow-lt h)) (λ l. b)

-- ---- the members make the set

-- two sets with the same members are one
pub same_set : (w a b : ℕ) → a < 2 ^ w → b < 2 ^ w → ((i : ℕ) → i < w → has a i ≡ has b i) → a ≡ b
same_set w a b ha hb e = same_from_bits_below w a b ha hb (λ i h. digit_has a i ∙ ap digit (e i h) ∙ sym (digit_has b i))

-- ---- from the machine's shifts

-- a 1 shifted by less than the width loses nothing
one_shift : (w i : ℕ) → i < w → 1 * 2 ^ i % 2 ^ w ≡ 2 ^ i
one_shift w i h = rw (one-mul, mod-eq_of_lt (pow-lt h))

-- the bit shifted to i, put in
pub add_in : (w s i : ℕ) → i < w → bit_or s (1 * 2 ^ i % 2 ^ w) ≡ add w s i
unfolding add
add_in w s i h = rw (one_shift, lt-ltb)

-- past the width nothing is put in
pub add_out : (w s i : ℕ) → w ≤ i → s ≡ add w s i
unfolding add
add_out w s i l = rw le-ltb

-- the bit shifted to i, put in and turned over
pub remove_in : (w s i : ℕ) → i < w → bit_xor (bit_or s (1 * 2 ^ i % 2 ^ w)) (1 * 2 ^ i % 2 ^ w) ≡ remove w s i
unfolding remove
remove_in w s i h = rw (one_shift, lt-ltb)

-- past the width nothing is taken out
pub remove_out : (w s i : ℕ) → w ≤ i → s ≡ remove w s i
unfolding remove
remove_out w s i l = rw le-ltb

-- with a bit put in or none, and with it put in and turned over
or_cond : (b : Bool) (s x : ℕ) → bit_or s (cond b x 0) ≡ cond b (bit_or s x) s
or_cond true s x = refl
or_cond false s x = or_zero_r s

xor_cond : (b : Bool) (s x : ℕ) → bit_xor (bit_or s (cond b x 0)) (cond b x 0) ≡ cond b (bit_xor (bit_or s x) x) s
xor_cond true s x = refl
xor_cond false s x = xor_zero_r (bit_or s 0) ∙ or_zero_r s

-- the bit that stands for i, put in and narrowed to the width
pub narrow_add : (w s i : ℕ) → s < 2 ^ w → bit_or s (cond (ltb i w) (2 ^ i) 0) % 2 ^ w ≡ add w s i
unfolding add
narrow_add w s i b = ap (λ n. n % 2 ^ w) (or_cond (ltb i w) s (2 ^ i)) ∙ mod-eq_of_lt (add_below w s i b)

-- the bit that stands for i, put in and turned over and narrowed to the width
pub narrow_remove : (w s i : ℕ) → s < 2 ^ w
    → bit_xor (bit_or s (cond (ltb i w) (2 ^ i) 0)) (cond (ltb i w) (2 ^ i) 0) % 2 ^ w ≡ remove w s i
unfolding remove
narrow_remove w s i b = ap (λ n. n % 2 ^ w) (xor_cond (ltb i w) s (2 ^ i)) ∙ mod-eq_of_lt (remove_below w s i b)

-- ---- the smallest number

-- among more bits it is the same, and where there is none it is cut to the width
pub lowest_within : (w v s : ℕ) → w ≤ v → min w (lowest v s) ≡ lowest w s
unfolding lowest count_trailing_zeros
lowest_within zero v s l = omega arith
lowest_within (suc w) zero s l = absurd (omega arith)
lowest_within (suc w) (suc v) s l = go (s % 2) (lowest_within w v (s / 2) (omega arith))
  where
    go : (r : ℕ) → min w (count_trailing_zeros v (s / 2)) ≡ count_trailing_zeros w (s / 2)
        → min (suc w) (under r (count_trailing_zeros v (s / 2))) ≡ under r (count_trailing_zeros w (s / 2))
    go zero e = omega arith
    go (suc r) e = omega arith

first_bit : (s : ℕ) → has s 0 ≡ eqb (s % 2) 1
first_bit s = has_by s 0 (s % 2) (bit_at_lowest s)

-- half of the number is the set with each member one less
has_half : (s i : ℕ) → has (s / 2) i ≡ has s (suc i)
unfolding has
has_half s i = sym (has_by s (suc i) (bit_at (s / 2) i) (bit_at-suc s i))

-- nothing below the smallest number is in the set
pub none_below_lowest : (w s i : ℕ) → i < lowest w s → has s i ≡ false
unfolding lowest count_trailing_zeros
none_below_lowest zero s i h = absurd (omega arith)
none_below_lowest (suc w) s i h = go (s % 2) refl i h (λ j. none_below_lowest w (s / 2) j)
  where
    go : (r : ℕ) → s % 2 ≡ r → (j : ℕ) → j < under r (count_trailing_zeros w (s / 2)) → ((k : ℕ) → k < count_trailing_zeros w (s / 2) → has (s / 2) k ≡ false) → has s j ≡ false
    go zero e zero l ih = first_bit s ∙ ap (λ (x : ℕ). eqb x 1) e
    go zero e (suc j) l ih = sym (has_half s j) ∙ ih j (omega arith)
    go (suc r) e j l ih = absurd (omega arith)

-- the smallest number is in the set, where there is one
pub has_lowest : (w s : ℕ) → s < 2 ^ w → 0 < s → has s (lowest w s) ≡ true
unfolding lowest count_trailing_zeros
has_lowest zero s b h = absurd (omega (arith, lt-one b))
has_lowest (suc w) s b h = go (s % 2) refl (has_lowest w (s / 2) (shr_lt w 1 (rw add-one b)))
  where
    go : (r : ℕ) → s % 2 ≡ r → (0 < s / 2 → has (s / 2) (count_trailing_zeros w (s / 2)) ≡ true) → has s (under r (count_trailing_zeros w (s / 2))) ≡ true
    go zero e ih = sym (has_half s (count_trailing_zeros w (s / 2))) ∙ ih (omega arith)
    go (suc r) e ih = first_bit s ∙ ap (λ (x : ℕ). eqb x 1) (odd r e)
      where
        odd : (q : ℕ) → s % 2 ≡ suc q → s % 2 ≡ 1
        odd q g = omega arith

-- it is below the width
pub lowest_below : (w s : ℕ) → s < 2 ^ w → 0 < s → lowest w s < w
lowest_below w s b h =
    elim (dec_lt (lowest w s) w) [
      | yes l ↦ l
      | no l ↦ absurd (true≢false (sym (has_lowest w s b h) ∙ has_past w s (lowest w s) b (omega arith)))
    ]

-- a number alone, and a set that has it
and_one : (s i : ℕ) → has s i ≡ true → bit_and s (2 ^ i) ≡ 2 ^ i
and_one s i h = and_pow s i ∙ ap (λ d. d * 2 ^ i) (digit_has s i ∙ ap digit h) ∙ one-mul (2 ^ i)

-- a set is smaller without a number that it has
pub remove_less : (w s i : ℕ) → i < w → has s i ≡ true → remove w s i < s
unfolding remove
remove_less w s i l h =
    let a = and_one s i h in
    let o : bit_or s (2 ^ i) ≡ s = let e = or_add_and s (2 ^ i) in omega arith in
    let x = xor_add_and s (2 ^ i) in
    let p = pow_pos i in
    rw (lt-ltb i w l, o) (omega arith)
