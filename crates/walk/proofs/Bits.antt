-- The set of possible choices, bit by bit: UPs where a tablet is dirty, DOWNs where it is neither fresh nor dirty.
-- Assumes nothing.
use mathlib.Core.Bool.{Bool, true, false, cond, not, xor, ◌&&◌, ◌||◌, and_comm, or-false}
use mathlib.Core.Path.{◌≡◌, refl, sym, ap, ap₂, ◌∙◌, subst}
use Prim.Native.Nat.{ℕ, zero, suc, ◌+◌, ◌-◌, ◌*◌, ◌/◌, ◌%◌, ◌^◌, ◌≤◌, ◌<◌}
use native.Mathlib.Nat.{add-sub_of_le, lt_of_lt_of_le, lt_of_le_of_lt}
use native.Mathlib.Decide.{dec_le}
use native.Mathlib.Omega.{arith}
use lib.Bits.{bit_and, bit_or, bit_xor, and_shifted, and_le_l, or_lt, xor_lt}
use lib.Dec.{leb, eqb, lit<}
use lib.Pow.{pow-lt, shl-shr, shr-shr, shl_lt, shl_exact}
use borrow.Author.Tests.{le-leb, lt-leb, ne_eqb}
use Rattle.marks.specs.Sets.{has, only, full}
use Rattle.marks.proofs.Laws.{has_and, has_or, has_xor, has_empty, has_past, has_one_same, has_only_same, has_full, not_has_full}
use Rattle.model.specs.Model.{seats, seat, is_tablet, mark_at, may}
use Rattle.model.specs.declared.State.{State}
use Rattle.model.specs.declared.Observation.{Observation}
use Rattle.model.specs.declared.Event.TheVariants.{Observed, Up, Down}
use Rattle.walk.specs.Choices.{event_of, Possible}

-- a set moved k up has what it had, k higher, and nothing below
has_moved : (x k j : ℕ) → has (x * 2 ^ k) (k + j) ≡ has x j
unfolding has
has_moved x k j = ap (λ (y : ℕ). eqb (y % 2) 1) (sym (shr-shr (x * 2 ^ k) k j) ∙ ap (λ (y : ℕ). y / 2 ^ j) (shl-shr x k))

none_below_moved : (x k j : ℕ) → j < k → has (x * 2 ^ k) j ≡ false
unfolding only
none_below_moved x k j h = sym (has_only_same (x * 2 ^ k) j) ∙ ap (λ (y : ℕ). has y j) (and_shifted x k (2 ^ j) (pow-lt h)) ∙ has_empty j

moved_at : (x k i : ℕ) → k ≤ i → has (x * 2 ^ k) i ≡ has x (i - k)
moved_at x k i h = ap (has (x * 2 ^ k)) (sym (add-sub_of_le h)) ∙ has_moved x k (i - k)

-- a tablet is there exactly where the set of all tablets has its seat
seated : (n t : ℕ) → 1 ≤ t → is_tablet n t ≡ has (full (seats n)) (t - 1)
unfolding is_tablet
seated n t h =
    ap (λ (b : Bool). b && leb t (seats n)) (le-leb 1 t h)
    ∙ (elim (dec_le t (seats n)) [
      | yes l ↦ le-leb t (seats n) l ∙ sym (has_full (seats n) (t - 1) (omega arith))
      | no l ↦ lt-leb t (seats n) (omega arith) ∙ sym (not_has_full (seats n) (t - 1) (omega arith))
    ])

seat_of : (t : ℕ) → 1 ≤ t → seat t ≡ t - 1
unfolding seat
seat_of t h = ap (λ (b : Bool). cond b 255 (t - 1)) (ne_eqb t 0 (λ e. omega arith))

all_eight : (j : ℕ) → j < 8 → has 255 j ≡ true
unfolding full
all_eight j h = has_full 8 j h

-- neither the one nor the other
neither : (a b : Bool) → xor (a || b) true ≡ (not a && not b)
unfolding xor
neither true b = refl
neither false true = refl
neither false false = refl

module _ (n : ℕ) (s : State) (fresh_fits : s.fresh < 2 ^ 8) (dirty_fits : s.dirty < 2 ^ 8) where
  abbrev ups : ℕ
  ups = bit_and s.dirty (full (seats n))

  abbrev downs : ℕ
  downs = bit_and (bit_xor (bit_or s.fresh s.dirty) 255) (full (seats n))

  abbrev hidden : ℕ
  hidden = bit_or (ups * 2 ^ 1 % 2 ^ 64) (downs * 2 ^ 9 % 2 ^ 64)

  pub ups_fit : ups < 2 ^ 8
  ups_fit = lt_of_le_of_lt (and_le_l s.dirty (full (seats n))) dirty_fits

  pub downs_fit : downs < 2 ^ 8
  downs_fit =
      lt_of_le_of_lt (and_le_l (bit_xor (bit_or s.fresh s.dirty) 255) (full (seats n)))
      (xor_lt 8 (bit_or s.fresh s.dirty) 255 (or_lt 8 s.fresh s.dirty fresh_fits dirty_fits) (lit< tt))

  -- nothing is shifted out
  plain : hidden ≡ bit_or (ups * 2 ^ 1) (downs * 2 ^ 9)
  plain = ap₂ bit_or (shl_exact 8 1 64 ups_fit (omega arith)) (shl_exact 8 9 64 downs_fit (omega arith))

  few : hidden < 2 ^ 17
  few =
      subst (λ (x : ℕ). x < 2 ^ 17) (sym plain)
      (or_lt 17 (ups * 2 ^ 1) (downs * 2 ^ 9) (lt_of_lt_of_le (shl_lt 8 1 ups_fit) (omega arith)) (shl_lt 8 9 downs_fit))

  either : (i : ℕ) → has hidden i ≡ (has (ups * 2 ^ 1) i || has (downs * 2 ^ 9) i)
  either i = ap (λ (x : ℕ). has x i) plain ∙ has_or (ups * 2 ^ 1) (downs * 2 ^ 9) i

  at_zero : has hidden 0 ≡ false
  at_zero = either 0 ∙ ap₂ ◌||◌ (none_below_moved ups 1 0 (omega arith)) (none_below_moved downs 9 0 (omega arith))

  at_up : (i : ℕ) → 1 ≤ i → i ≤ 8 → has hidden i ≡ may n s (Up i)
  unfolding may mark_at
  at_up i l h =
      either i
      ∙ ap₂ ◌||◌ (moved_at ups 1 i l ∙ has_and s.dirty (full (seats n)) (i - 1)) (none_below_moved downs 9 i (omega arith))
      ∙ or-false (has s.dirty (i - 1) && has (full (seats n)) (i - 1))
      ∙ and_comm (has s.dirty (i - 1)) (has (full (seats n)) (i - 1))
      ∙ ap₂ ◌&&◌ (sym (seated n i l)) (ap (has s.dirty) (sym (seat_of i l)))

  at_down : (i : ℕ) → 9 ≤ i → i < 17 → has hidden i ≡ may n s (Down (i - 8))
  unfolding may mark_at
  at_down i l h =
      let t : 1 ≤ i - 8 = omega arith in
      let q : i - 8 - 1 ≡ i - 9 = omega arith in
      either i
      ∙ ap₂ ◌||◌ (moved_at ups 1 i (omega arith) ∙ has_past 8 ups (i - 1) ups_fit (omega arith))
      (moved_at downs 9 i l
      ∙ has_and (bit_xor (bit_or s.fresh s.dirty) 255) (full (seats n)) (i - 9)
      ∙ ap (λ (b : Bool). b && has (full (seats n)) (i - 9))
      (has_xor (bit_or s.fresh s.dirty) 255 (i - 9) ∙ ap₂ xor (has_or s.fresh s.dirty (i - 9)) (all_eight (i - 9) (omega arith)) ∙ neither (has s.fresh (i - 9)) (has s.dirty (i - 9))))
      ∙ and_comm (not (has s.fresh (i - 9)) && not (has s.dirty (i - 9))) (has (full (seats n)) (i - 9))
      ∙ ap₂ (λ (a b : ℕ). has (full (seats n)) a && (not (has s.fresh b) && not (has s.dirty b))) (sym q) (sym (seat_of (i - 8) t ∙ q))
      ∙ ap (λ (b : Bool). b && (not (has s.fresh (seat (i - 8))) && not (has s.dirty (seat (i - 8))))) (sym (seated n (i - 8) t))

  -- each number, where the observation may happen or not
  each : (o : Observation) (set : ℕ) → ((i : ℕ) → 0 < i → has set i ≡ has hidden i) → has set 0 ≡ may n s (Observed o) → (i : ℕ) → i < 17 → has set i ≡ may n s (event_of i o)
  unfolding event_of
  each o set above first zero h = first
  each o set above first (suc j) h =
      elim (dec_le (suc j) 8) [
        | yes l ↦ above (suc j) (omega arith) ∙ at_up (suc j) (omega arith) l ∙ sym (rw (ne_eqb (suc j) 0 (λ e. omega arith), le-leb (suc j) 8 l))
        | no l ↦ above (suc j) (omega arith) ∙ at_down (suc j) (omega arith) h ∙ sym (rw (ne_eqb (suc j) 0 (λ e. omega arith), lt-leb (suc j) 8 (omega arith)))
      ]

  pub possible_with : (o : Observation) → may n s (Observed o) ≡ true → Possible n s o (bit_or hidden 1)
  possible_with o m =
      record {
        few = or_lt 17 hidden 1 few (lit< tt);
        each =
            each o (bit_or hidden 1) (λ i l. has_or hidden 1 i ∙ ap (λ (b : Bool). has hidden i || b) (has_past 1 1 i (lit< tt) l) ∙ or-false (has hidden i))
            (has_or hidden 1 0 ∙ ap₂ ◌||◌ at_zero (has_one_same 0) ∙ sym m);
      }

  pub possible_without : (o : Observation) → may n s (Observed o) ≡ false → Possible n s o hidden
  possible_without o m = record { few = few; each = each o hidden (λ i l. refl) (at_zero ∙ sym m) }
