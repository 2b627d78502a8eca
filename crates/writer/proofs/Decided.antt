-- What the tests of the writer leave when none of them refuses: the rows are kept, each number is small, and the file fits.
-- Assumes nothing.
use mathlib.Core.Bool.{Bool, true, false, cond, not, ◌||◌, true≢false}
use mathlib.Core.List.{List, [], ◌∷◌}
use mathlib.Core.Path.{◌≡◌, refl, sym, ap, ◌∙◌}
use Prim.Native.Nat.{ℕ, zero, suc, ◌+◌, ◌*◌, ◌/◌, ◌≤◌, ◌<◌}
use native.Mathlib.Nat.{add-zero}
use native.Mathlib.Omega.{arith}
use Rattle.std.proofs.Common.{Result, Ok, Err, IsErr, IfOk}
use lib.Dec.{ltb, eqb}
use lib.ListN.{length}
use borrow.Author.Tests.{ltb-false, eqb-true, not-false}
use Rattle.records.specs.Records.{record_at, keeps_row}
use Rattle.tracefile.specs.File.{most, record_size, outside}
use Rattle.std.proofs.lemmas.Bool.{or_parts}
use Rattle.tracefile.proofs.Good.{inside}
use Rattle.writer.specs.declared.Unwritten.{Unwritten}
use Rattle.writer.specs.declared.Unwritten.TheVariants.{Tablets, Values, Bodies, Counts, BadRecord, Room}
use Rattle.writer.specs.Written.{Outcome, wrote, refused, refusal, told, sum, over, file_size, bad_record, fitted, write, buffer_after}
use Rattle.writer.specs.Decided.{Decided}
use Rattle.writer.proofs.Counts.{wrong}
use Rattle.writer.proofs.Laid.{Rows, few}

-- counts of at most 256 each have a small sum
pub sum_few : (counts : List ℕ) → over counts ≡ false → sum counts ≤ 256 * length counts
unfolding sum
sum_few [] o = omega arith
sum_few (count ∷ counts) o =
    let w = few count counts o in
    let r = sum_few counts w.1 in
    omega arith

-- the record bytes of 16 bodies or fewer that are counted right
pub counted : (counts : List ℕ) (bytes : ℕ) → length counts ≤ 16 → wrong counts bytes ≡ false
    → (bytes ≡ record_size * sum counts) × (bytes ≤ record_size * (16 * most))
counted counts bytes bodies e =
    let both = or_parts (over counts) (not (eqb bytes (record_size * sum counts))) e in
    let all : bytes ≡ record_size * sum counts = eqb-true _ _ (not-false _ both.1) in
    (all, omega (arith, sum_few counts both.0))

-- a test that would have refused was not met
passed : (t : Bool) (k p size : ℕ) (next : Outcome) → cond t (refused k p) next ≡ wrote size → (t ≡ false) × (next ≡ wrote size)
passed true k p size next h = let z : ◌≡◌ {A = ℕ} 0 1 = cc in absurd (omega arith)
passed false k p size next h = (refl, h)

-- all records keep their rows
rows_kept : (n v : ℕ) (rs : List ℕ) (left at size : ℕ) (good : Outcome) → bad_record n v rs left at good ≡ wrote size
    → Rows n v rs at left × (good ≡ wrote size)
unfolding bad_record
rows_kept n v rs zero at size good h = (λ j l. absurd (omega arith), h)
rows_kept n v rs (suc left) at size good h = go (keeps_row n v (record_at rs at)) refl h (rows_kept n v rs left (at + 12) size good)
  where
    go : (b : Bool) → keeps_row n v (record_at rs at) ≡ b → cond b (bad_record n v rs left (at + 12) good) (refused 7 at) ≡ wrote size
        → (bad_record n v rs left (at + 12) good ≡ wrote size → Rows n v rs (at + 12) left × (good ≡ wrote size))
        → Rows n v rs at (suc left) × (good ≡ wrote size)
    go true e g ih =
        let r = ih g in
        (λ j l. first j l r.0, r.1)
      where
        first : (j : ℕ) → j < suc left → Rows n v rs (at + 12) left → keeps_row n v (record_at rs (at + 12 * j)) ≡ true
        first zero l k = ap (λ (x : ℕ). keeps_row n v (record_at rs x)) (add-zero at) ∙ e
        first (suc j) l k =
            let q : at + 12 * suc j ≡ at + 12 + 12 * j = omega arith in
            ap (λ (x : ℕ). keeps_row n v (record_at rs x)) q ∙ k j (omega arith)
    go false e g ih = let z : ◌≡◌ {A = ℕ} 0 1 = cc in absurd (omega arith)

-- What is known of what was written.
pub record Accepted (n v : ℕ) (counts rs : List ℕ) (room size : ℕ) : Type 0 where
  pub tablets : outside 1 8 n ≡ false
  pub values : outside 1 64 v ≡ false
  pub bodies : outside 1 16 (length counts) ≡ false
  pub few_each : over counts ≡ false
  pub total : length rs ≡ 12 * sum counts
  pub rows : Rows n v rs 0 (length rs / 12)
  pub size_of : file_size counts rs ≡ size
  pub fits : file_size counts rs ≤ room

-- where writing comes to a file, that is known
pub accepts : (n v : ℕ) (counts rs : List ℕ) (room size : ℕ) → write n v counts rs room ≡ wrote size → Accepted n v counts rs room size
unfolding write
accepts n v counts rs room size h =
    let a = passed (outside 1 8 n) 3 0 size _ h in
    let b = passed (outside 1 64 v) 4 0 size _ a.1 in
    let c = passed (outside 1 16 (length counts)) 5 0 size _ b.1 in
    let d = passed (over counts || not (eqb (length rs) (12 * sum counts))) 6 0 size _ c.1 in
    let e = or_parts (over counts) (not (eqb (length rs) (12 * sum counts))) d.0 in
    let r = rows_kept n v rs (length rs / 12) 0 size (fitted counts rs room) d.1 in
    let g = passed (ltb room (file_size counts rs)) 9 0 size (wrote (file_size counts rs)) r.1 in
    let s = g.1 in
    record {
      tablets = a.0;
      values = b.0;
      bodies = c.0;
      few_each = e.0;
      total = eqb-true (length rs) (12 * sum counts) (not-false (eqb (length rs) (12 * sum counts)) e.1);
      rows = r.0;
      size_of = cc;
      fits = ltb-false room (file_size counts rs) g.0;
    }

-- how small each number is then
decided : (n v : ℕ) (counts records : List ℕ) (room size : ℕ) → Accepted n v counts records room size → Decided n v counts records room size
decided n v counts records room size w =
    let k = (inside 1 16 (length counts) w.bodies).1 in
    record {
      tablets = (inside 1 8 n w.tablets).1;
      values = (inside 1 64 v w.values).1;
      bodies = k;
      bytes = w.total;
      small = omega (arith, sum_few counts w.few_each, w.total);
      whole = sym w.size_of;
      fits = omega (arith, w.size_of, w.fits);
    }

-- the same of an answer that tells it
pub decided_ok : (n v : ℕ) (counts records : List ℕ) (room : ℕ) (answer : Result ℕ Unwritten) → told answer ≡ write n v counts records room
    → IfOk answer (λ size. Decided n v counts records room size)
decided_ok n v counts records room (Ok size) e = decided n v counts records room size (accepts n v counts records room size (sym e))
decided_ok n v counts records room (Err why) e = tt

-- no refusal touches the buffer
refusal_keeps : (file buffer : List ℕ) (why : Unwritten) → buffer_after file buffer (refusal why) ≡ buffer
unfolding buffer_after
refusal_keeps file buffer Tablets = refl
refusal_keeps file buffer Values = refl
refusal_keeps file buffer Bodies = refl
refusal_keeps file buffer Counts = refl
refusal_keeps file buffer (BadRecord at) = refl
refusal_keeps file buffer Room = refl

-- nor does an answer that is one
pub refused_keeps : (file buffer : List ℕ) (answer : Result ℕ Unwritten) → IsErr answer → buffer_after file buffer (told answer) ≡ buffer
refused_keeps file buffer (Err why) e = refusal_keeps file buffer why
refused_keeps file buffer (Ok size) e = absurd (true≢false (sym e))
