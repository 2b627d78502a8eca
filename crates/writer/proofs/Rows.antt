-- Records against their rows, record by record: the outcome for those left from a place on.
-- Assumes nothing.
use mathlib.Core.Bool.{cond}
use mathlib.Core.List.{List}
use mathlib.Core.Path.{◌≡◌, ap}
use Prim.Native.Nat.{ℕ, suc, ◌+◌, ◌-◌, ◌*◌, ◌≤◌, ◌<◌}
use native.Mathlib.Omega.{arith}
use Rattle.records.specs.Records.{record_at, keeps_row}
use Rattle.tracefile.specs.File.{record_size}
use Rattle.writer.specs.Written.{Outcome, refused, bad_record}

module _ (n v : ℕ) (records : List ℕ) where
  -- the records that are left begin with the next one
  pub rows_on : (k i : ℕ) (good : Outcome) → i < k
      → bad_record n v records (k - i) (record_size * i) good
      ≡ cond (keeps_row n v (record_at records (record_size * i))) (bad_record n v records (k - (i + 1)) (record_size * (i + 1)) good) (refused 7 (record_size * i))
  unfolding bad_record
  rows_on k i good h =
      let more : k - i ≡ suc (k - (i + 1)) = omega arith in
      let next : record_size * i + record_size ≡ record_size * (i + 1) = omega arith in
      rw more
      (ap (λ (at : ℕ). cond (keeps_row n v (record_at records (record_size * i))) (bad_record n v records (k - (i + 1)) at good) (refused 7 (record_size * i))) next)

  -- none is left
  pub rows_end : (k i at : ℕ) (good : Outcome) → k ≤ i → bad_record n v records (k - i) at good ≡ good
  unfolding bad_record
  rows_end k i at good h = let none : k - i ≡ 0 = omega arith in rw none

pub ruleset rows_steps = (rows_on, rows_end)
