-- The digits of a number: those of its tenth part, and its last one; how many there can be; and that they are the number's,
-- with no leading zero.
-- Assumes nothing.
use mathlib.Core.Bool.{Bool, true, false, cond}
use mathlib.Core.List.{List, [], ◌∷◌, ◌++◌}
use mathlib.Core.Path.{◌≡◌, refl, sym, ap, ◌∙◌}
use Prim.Native.Nat.{ℕ, zero, suc, ◌+◌, ◌-◌, ◌*◌, ◌/◌, ◌^◌, ◌≤◌, ◌<◌}
use native.Mathlib.Omega.{arith}
use lib.Dec.{ltb}
use lib.ListN.{length, length-append}
use borrow.Author.Tests.{ltb-true, ltb-false, lt-ltb, le-ltb}
use Rattle.lines.specs.Text.{digit, digits, decimal}

-- the first number that has more than many + 1 digits
beyond : ℕ → ℕ
beyond zero = 10
beyond (suc many) = 10 * beyond many

-- further digits would be no others
more_digits : (many n : ℕ) → n < beyond many → digits (suc many) n ≡ digits many n
unfolding digits beyond
more_digits zero n h = rw (lt-ltb n 10 h)
more_digits (suc many) n h = go (ltb n 10) (more_digits many (n / 10) (omega arith))
  where
    go : (t : Bool) → digits (suc many) (n / 10) ≡ digits many (n / 10)
        → cond t (digit n ∷ []) (digits (suc many) (n / 10) ++ (digit n ∷ [])) ≡ cond t (digit n ∷ []) (digits many (n / 10) ++ (digit n ∷ []))
    go true less = refl
    go false less = ap (λ (l : List ℕ). l ++ (digit n ∷ [])) less

-- a number below 10 is its digit
pub decimal_one : (n : ℕ) → n < 10 → decimal n ≡ digit n ∷ []
unfolding decimal digits
decimal_one n h = rw (lt-ltb n 10 h)

-- any other of 32 bits has the digits of its tenth part, and then its last one
pub decimal_more : (n : ℕ) → 10 ≤ n → n < 2 ^ 32 → decimal n ≡ decimal (n / 10) ++ (digit n ∷ [])
unfolding decimal digits beyond
decimal_more n h small =
    rw (le-ltb n 10 h) (ap (λ (l : List ℕ). l ++ (digit n ∷ [])) (sym (more_digits 8 (n / 10) (omega arith))))

-- ---- how many there are

few_digits : (many n : ℕ) → length (digits many n) ≤ suc many
unfolding digits
few_digits zero n = omega arith
few_digits (suc many) n = go (ltb n 10) (few_digits many (n / 10))
  where
    go : (t : Bool) → length (digits many (n / 10)) ≤ suc many → length (cond t (digit n ∷ []) (digits many (n / 10) ++ (digit n ∷ []))) ≤ suc (suc many)
    go true less = omega arith
    go false less = rw length-append (omega arith)

pub ten_digits : (n : ℕ) → length (decimal n) ≤ 10
unfolding decimal
ten_digits n = few_digits 9 n

-- ---- they are the number's

-- the number that digits read from the left stand for, after a number that was read before
pub read_on : ℕ → List ℕ → ℕ
read_on n [] = n
read_on n (d ∷ ds) = read_on (10 * n + (d - 48)) ds

read_last : (n d : ℕ) (ds : List ℕ) → read_on n (ds ++ (d ∷ [])) ≡ 10 * read_on n ds + (d - 48)
unfolding read_on
read_last n d [] = refl
read_last n d (x ∷ ds) = read_last (10 * n + (x - 48)) d ds

reads_digits : (many n : ℕ) → n < beyond many → read_on 0 (digits many n) ≡ n
unfolding read_on digits beyond
reads_digits zero n h = omega arith
reads_digits (suc many) n h = go (ltb n 10) refl (reads_digits many (n / 10) (omega arith))
  where
    go : (t : Bool) → ltb n 10 ≡ t → read_on 0 (digits many (n / 10)) ≡ n / 10
        → read_on 0 (cond t (digit n ∷ []) (digits many (n / 10) ++ (digit n ∷ []))) ≡ n
    go true e less = let small = ltb-true n 10 e in omega arith
    go false e less = read_last 0 (digit n) (digits many (n / 10)) ∙ omega arith

-- the digits of a number of 32 bits, read from the left, are that number
pub decimal_reads : (n : ℕ) → n < 2 ^ 32 → read_on 0 (decimal n) ≡ n
unfolding decimal beyond
decimal_reads n h = reads_digits 9 n (omega arith)

-- the first of some digits
pub first : List ℕ → ℕ
first [] = 48
first (d ∷ ds) = d

first_stays : (ds : List ℕ) (d : ℕ) → 1 ≤ length ds → first (ds ++ (d ∷ [])) ≡ first ds
unfolding first
first_stays [] d h = absurd (omega arith)
first_stays (x ∷ ds) d h = refl

some_digit : (many n : ℕ) → 1 ≤ length (digits many n)
unfolding digits
some_digit zero n = omega arith
some_digit (suc many) n = go (ltb n 10)
  where
    go : (t : Bool) → 1 ≤ length (cond t (digit n ∷ []) (digits many (n / 10) ++ (digit n ∷ [])))
    go true = omega arith
    go false = rw length-append (omega arith)

first_digit : (many n : ℕ) → n < beyond many → first (digits many n) ≡ 48 → n ≡ 0
unfolding first digits beyond
first_digit zero n h e = omega arith
first_digit (suc many) n h e = go (ltb n 10) refl (first_digit many (n / 10) (omega arith)) e
  where
    go : (t : Bool) → ltb n 10 ≡ t → (first (digits many (n / 10)) ≡ 48 → n / 10 ≡ 0)
        → first (cond t (digit n ∷ []) (digits many (n / 10) ++ (digit n ∷ []))) ≡ 48 → n ≡ 0
    go true c less g = let small = ltb-true n 10 c in omega arith
    go false c less g =
        let large = ltb-false n 10 c in
        let none = less (sym (first_stays (digits many (n / 10)) (digit n) (some_digit many (n / 10))) ∙ g) in
        omega arith

-- only 0 begins with the digit 0
pub no_leading_zero : (n : ℕ) → n < 2 ^ 32 → first (decimal n) ≡ 48 → n ≡ 0
unfolding decimal beyond
no_leading_zero n h e = first_digit 9 n (omega arith) e

-- a value has at most 2
pub two_digits : (n : ℕ) → n < 64 → length (decimal n) ≤ 2
two_digits n h = go (ltb n 10) refl
  where
    go : (t : Bool) → ltb n 10 ≡ t → length (decimal n) ≤ 2
    go true e = rw (decimal_one n (ltb-true n 10 e)) (omega arith)
    go false e =
        let large = ltb-false n 10 e in
        rw (decimal_more n large (omega arith), decimal_one (n / 10) (omega arith)) (omega arith)
