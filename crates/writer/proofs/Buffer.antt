-- The file in the buffer, piece by piece: the head, the entries one after the other, and the records.
-- Assumes nothing.
use mathlib.Core.List.{List, [], ◌∷◌, ◌++◌, append_assoc}
use mathlib.Core.Path.{◌≡◌, refl, sym, ap, ◌∙◌}
use Prim.Native.Nat.{ℕ, ◌+◌, ◌*◌, ◌-◌, ◌≤◌, ◌<◌}
use native.Mathlib.Numerals.{add-one}
use native.Mathlib.Omega.{arith}
use Rattle.std.proofs.Common.{rules, append-nil}
use lib.ListN.{length, get_or, take, drop, drop_of_length-le}
use lib.Seq.{drop-cons, drop-drop}
use borrow.Rule.Slice.PartMut.{put_mid}
use Rattle.std.proofs.lemmas.Slice.{take-put_mid, drop-put_mid, overwrites}
use Rattle.tracefile.specs.File.{entry, record_size}
use Rattle.writer.specs.Written.{two_bytes, sum, entries_of, file_of, file_size, wrote, buffer_after}

-- the head and the entries of a file
abbrev pub front : ℕ → ℕ → List ℕ → List ℕ
front n v counts = 1 ∷ n ∷ v ∷ length counts ∷ entries_of (entry (length counts)) counts

-- the counts that are left begin with the next one, and so do the entries
pub sum_on : (counts : List ℕ) (i : ℕ) → i < length counts → sum (drop i counts) ≡ get_or counts i 0 + sum (drop (i + 1) counts)
unfolding sum
sum_on counts i here = rw (add-one, drop-cons counts i 0 here)

pub entries_on : (counts : List ℕ) (i at : ℕ) → i < length counts
    → entries_of at (drop i counts) ≡ two_bytes at ++ (two_bytes (get_or counts i 0) ++ entries_of (at + record_size * get_or counts i 0) (drop (i + 1) counts))
unfolding entries_of
entries_on counts i at here = rw (add-one, drop-cons counts i 0 here)

-- none is left
pub entries_end : (counts : List ℕ) (i at : ℕ) → length counts ≤ i → entries_of at (drop i counts) ≡ []
unfolding entries_of
entries_end counts i at h = rw (drop_of_length-le counts h)

pub ruleset entering = (sum_on, entries_on, entries_end)

-- an entry has 4 bytes
pub length_entries : (at : ℕ) (counts : List ℕ) → length (entries_of at counts) ≡ 4 * length counts
unfolding entries_of
length_entries at [] = refl
length_entries at (count ∷ counts) = omega (arith, length_entries (at + record_size * count) counts)

-- two parts that are stored one behind the other
module _ (b x y : List ℕ) (e : ℕ) (room : e + 4 ≤ length b) (two : length x ≡ 2) (more : length y ≡ 2) where
  long : length (put_mid e (e + 2 - e) b x) ≡ length b
  long = search (rules, overwrites)

  -- they follow what stood before them
  pub take_both : (k : ℕ) → k ≡ e + 4 → take k (put_mid (e + 2) (e + 4 - (e + 2)) (put_mid e (e + 2 - e) b x) y) ≡ take e b ++ (x ++ y)
  take_both k q =
      let inner = take-put_mid e (e + 2 - e) b x (e + 2) (omega arith) (omega arith) in
      let outer = take-put_mid (e + 2) (e + 4 - (e + 2)) (put_mid e (e + 2 - e) b x) y k (omega arith) (omega (arith, long)) in
      outer ∙ rw inner (append_assoc (take e b) x y)

  -- nothing after them has changed
  pub drop_both : (m : ℕ) → e + 4 ≤ m → drop m (put_mid (e + 2) (e + 4 - (e + 2)) (put_mid e (e + 2 - e) b x) y) ≡ drop m b
  drop_both m h =
      drop-put_mid (e + 2) (e + 4 - (e + 2)) (put_mid e (e + 2 - e) b x) y m (omega arith) (omega (arith, long)) (omega arith)
      ∙ drop-put_mid e (e + 2 - e) b x m (omega arith) (omega arith) (omega arith)

-- one more entry stands behind those that stood there
pub one_entered : (n v : ℕ) (counts b offset count : List ℕ) (at i : ℕ) → i < length counts → entry (length counts) ≤ length b
    → offset ≡ two_bytes at → count ≡ two_bytes (get_or counts i 0) → take (entry i) b ++ entries_of at (drop i counts) ≡ front n v counts
    → take (entry (i + 1)) (put_mid (entry i + 2) (entry i + 4 - (entry i + 2)) (put_mid (entry i) (entry i + 2 - entry i) b offset) count)
    ++ entries_of (at + record_size * get_or counts i 0) (drop (i + 1) counts)
    ≡ front n v counts
one_entered n v counts b offset count at i here room is_at is_count before =
    rw (take_both b offset count (entry i) (omega arith) (rw is_at) (rw is_count) (entry (i + 1)) (omega arith), is_at, is_count, append_assoc)
    (rw (entries_on counts i at here) at before)

-- all stand there
pub all_entered : (n v : ℕ) (counts b : List ℕ) (at i : ℕ) → length counts ≤ i → i ≤ length counts
    → take (entry i) b ++ entries_of at (drop i counts) ≡ front n v counts → take (entry (length counts)) b ≡ front n v counts
all_entered n v counts b at i h l before =
    let end : i ≡ length counts = omega arith in
    let whole = rw (entries_end counts i at h, append-nil) at before in
    ap (λ (x : ℕ). take (entry x) b) (sym end) ∙ whole

-- ---- the records

-- they complete the file
pub finished : (n v : ℕ) (counts records buffer b copied : List ℕ) (size : ℕ) → size ≡ file_size counts records
    → take (entry (length counts)) b ≡ front n v counts → drop (entry (length counts)) b ≡ drop (entry (length counts)) buffer → copied ≡ records
    → put_mid (entry (length counts)) (size - entry (length counts)) b copied ≡ buffer_after (file_of n v counts records) buffer (wrote size)
unfolding file_of buffer_after
finished n v counts records buffer b copied size whole before behind copy =
    let k = entry (length counts) in
    let all : k + (size - k) ≡ size = omega arith in
    let rest : drop (size - k) (drop k buffer) ≡ drop size buffer = drop-drop (size - k) k buffer ∙ ap (λ (x : ℕ). drop x buffer) all in
    rw (before, behind, copy)
    (ap (λ (l : List ℕ). front n v counts ++ (records ++ l)) rest ∙ sym (append_assoc (front n v counts) records (drop size buffer)))
