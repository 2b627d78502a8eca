-- A written file is good, and is read back as what it was written from.
-- Assumes nothing.
use mathlib.Core.Bool.{false}
use mathlib.Core.List.{List, [], ◌∷◌, ◌++◌}
use mathlib.Core.Path.{◌≡◌, refl, sym, ap, ap₂, ◌∙◌}
use Prim.Native.Nat.{ℕ, ◌+◌, ◌-◌, ◌*◌, ◌/◌, ◌≤◌, ◌<◌}
use native.Mathlib.Nat.{add-sub_cancel, zero-add}
use native.Mathlib.Omega.{arith}
use lib.ListN.{length, take, drop, length-append}
use lib.Seq.{drop-drop}
use borrow.Author.Tests.{le-ltb, eq-eqb}
use Rattle.records.specs.Bytes.{byte}
use Rattle.tracefile.specs.Refusals.{accepted}
use Rattle.tracefile.specs.File.{tablets_in, values_in, bodies_in, outside, entry, offset_in, count_in, body_size, head, contents, records, check, check_trace}
use Rattle.tracefile.proofs.Good.{inside, asked_part}
use Rattle.writer.specs.Written.{entries_of, file_of, file_size, sum, over}
use Rattle.writer.specs.RoundTrip.{counts_from, counts_in, bodies_from, read_bodies, parted}
use Rattle.writer.proofs.Laid.{later, few, first_entry, entries_good, Rows, bodies_good}
use Rattle.writer.proofs.Decided.{Accepted, sum_few}
use Rattle.writer.proofs.Buffer.{length_entries}
use Rattle.records.proofs.Parts.{record_drop}

-- ---- the file

module _ (n v : ℕ) (counts rs : List ℕ) (room size : ℕ) (w : Accepted n v counts rs room size) where
  abbrev f : List ℕ
  f = file_of n v counts rs

  laid : drop (entry 0) f ≡ entries_of (entry (length counts)) counts ++ rs
  unfolding file_of
  laid = refl

  pub head_bytes : (byte f 0 ≡ 1) × (tablets_in f ≡ n) × (values_in f ≡ v) × (bodies_in f ≡ length counts)
  unfolding file_of
  head_bytes = (refl, refl, refl, refl)

  pub long : length f ≡ file_size counts rs
  unfolding file_of
  long =
      let a = length-append (entries_of (entry (length counts)) counts) rs in
      let b = length_entries (entry (length counts)) counts in
      omega arith

  small : (length counts ≤ 16) × (length f ≤ 65535)
  small =
      let k = inside 1 16 (length counts) w.bodies in
      let s = sum_few counts w.few_each in
      let t = w.total in
      let l = long in
      (k.1, omega arith)

  tail_records : drop (entry (length counts)) f ≡ rs
  tail_records =
      let l : length (entries_of (entry (length counts)) counts) ≡ 4 * length counts = length_entries (entry (length counts)) counts in
      later f 4 (4 * length counts) (entries_of (entry (length counts)) counts) rs l laid

  head_good : head f ≡ accepted
  unfolding head
  head_good =
      let h = head_bytes in
      let k = inside 1 16 (length counts) w.bodies in
      let l = long in
      let s = small in
      rw (outside_not 4 65535 (length f) (omega arith) s.1, eq-eqb (byte f 0) 1 h.0, h.1, h.2, h.3, w.tablets, w.values, w.bodies)
    where
      outside_not : (low high x : ℕ) → low ≤ x → x ≤ high → outside low high x ≡ false
      outside_not low high x a b = rw (le-ltb x low a, le-ltb high x b)

  contents_good : contents f ≡ accepted
  unfolding contents
  contents_good =
      let l = long in
      let t = w.total in
      rw (head_bytes.3, le-ltb (length f) (entry (length counts)) (omega arith))
      (entries_good f counts rs 0 (entry (length counts)) laid w.few_each (omega arith) small.1)

  rows_good : Rows (tablets_in f) (values_in f) f (entry (length counts)) (sum counts)
  rows_good j l =
      let a = long in
      let t = w.total in
      let below : j < length rs / 12 = omega arith in
      rw (head_bytes.1, head_bytes.2, ← record_drop f (entry (length counts)) (12 * j) (omega arith), tail_records) (rw zero-add at (w.rows j below))

  records_good : records f ≡ accepted
  unfolding records
  records_good =
      let l = long in
      let t = w.total in
      let s = small in
      rw head_bytes.3
      (bodies_good f counts rs 0 (entry (length counts)) (entry (length counts)) laid w.few_each (omega arith) rows_good)

  pub good : check f ≡ accepted
  unfolding check
  good = rw (head_good, contents_good, records_good)

  -- the counts
  counts_back : (cs rest : List ℕ) (i at : ℕ) → drop (entry i) f ≡ entries_of at cs ++ rest → over cs ≡ false → at + 12 * sum cs ≤ 65535 → counts_from f i (length cs) ≡ cs
  unfolding counts_from sum
  counts_back [] rest i at d o l = refl
  counts_back (count ∷ cs) rest i at d o l =
      let g = few count cs o in
      let r = first_entry f i at count cs rest (omega arith) (omega arith) d in
      ap₂ (λ (a : ℕ) (b : List ℕ). a ∷ b) r.number_of (counts_back cs rest (i + 1) (at + 12 * count) r.others g.1 (omega arith))

  pub same_counts : counts_in f ≡ counts
  unfolding counts_in
  same_counts =
      let l = long in
      let t = w.total in
      let s = small in
      rw head_bytes.3 (counts_back counts rs 0 (entry (length counts)) laid w.few_each (omega arith))

  -- the bodies
  trace_there : (i : ℕ) → i < length counts → check_trace f (i + 1) ≡ accepted
  unfolding check_trace
  trace_there i h = rw (good, head_bytes.3, le-ltb (i + 1) 1 (omega arith), le-ltb (length counts) (i + 1) (omega arith))

  part_is : (i at count : ℕ) → offset_in f i ≡ at → count_in f i ≡ count → take (body_size f (i + 1 - 1)) (drop (offset_in f (i + 1 - 1)) f) ≡ take (12 * count) (drop at f)
  unfolding body_size
  part_is i at count p q = rw (add-sub_cancel i 1, p, q)

  bodies_back : (cs rest : List ℕ) (i at : ℕ) → drop (entry i) f ≡ entries_of at cs ++ rest → over cs ≡ false → at + 12 * sum cs ≤ 65535 → i + length cs ≡ length counts
      → bodies_from f i (length cs) ≡ parted cs (drop at f)
  unfolding bodies_from parted sum
  bodies_back [] rest i at d o l m = refl
  bodies_back (count ∷ cs) rest i at d o l m =
      let g = few count cs o in
      let r = first_entry f i at count cs rest (omega arith) (omega arith) d in
      ap₂ (λ (a : List ℕ) (b : List (List ℕ)). a ∷ b)
      (asked_part f (i + 1) (trace_there i (omega arith)) ∙ part_is i at count r.offset r.number_of)
      (bodies_back cs rest (i + 1) (at + 12 * count) r.others g.1 (omega arith) (omega arith) ∙ ap (parted cs) (sym (drop-drop (12 * count) at f)))

  pub same_bodies : read_bodies f ≡ parted counts rs
  unfolding read_bodies
  same_bodies =
      let l = long in
      let t = w.total in
      let s = small in
      rw head_bytes.3 (bodies_back counts rs 0 (entry (length counts)) laid w.few_each (omega arith) (zero-add (length counts)) ∙ ap (parted counts) tail_records)
