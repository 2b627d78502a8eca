-- The two round trips, each with its words.
-- Assumes nothing.
use mathlib.Core.List.{List, [], ◌∷◌}
use mathlib.Core.Path.{◌≡◌, refl, ◌∙◌}
use Prim.Native.Nat.{ℕ, ◌≤◌}
use lib.ListN.{length, drop}
use Rattle.records.specs.Bytes.{number}
use Rattle.tracefile.specs.Example.{records_of_d, file_of_d}
use Rattle.tracefile.proofs.Worked.{good}
use Rattle.tracefile.specs.Refusals.{accepted}
use Rattle.tracefile.specs.File.{tablets_in, values_in, bodies_in, entry, check}
use Rattle.writer.specs.Written.{wrote, file_of, write}
use Rattle.writer.specs.RoundTrip.{counts_in, read_bodies, parted}
use Rattle.writer.proofs.Decided.{accepts}
use Rattle.writer.proofs.Back as B
use Rattle.writer.proofs.Again as A

-- "A trace file written from records reads back as those records": it is good, and has those tablets, values, counts and
-- bodies, body by body.
pub record ReadsBack (n v : ℕ) (counts records : List ℕ) (size : ℕ) : Type 0 where
  pub good : check (file_of n v counts records) ≡ accepted
  pub tablets : tablets_in (file_of n v counts records) ≡ n
  pub values : values_in (file_of n v counts records) ≡ v
  pub counts_read : counts_in (file_of n v counts records) ≡ counts
  pub bodies_read : read_bodies (file_of n v counts records) ≡ parted counts records
  pub size_of : length (file_of n v counts records) ≡ size

pub reads_back : (n v : ℕ) (counts records : List ℕ) (room size : ℕ) → write n v counts records room ≡ wrote size → ReadsBack n v counts records size
reads_back n v counts records room size h =
    let w = accepts n v counts records room size h in
    record {
      good = B.good n v counts records room size w;
      tablets = (B.head_bytes n v counts records room size w).1;
      values = (B.head_bytes n v counts records room size w).2;
      counts_read = B.same_counts n v counts records room size w;
      bodies_read = B.same_bodies n v counts records room size w;
      size_of = B.long n v counts records room size w ∙ w.size_of;
    }

-- "A good file rewritten is the same bytes", and the writer accepts it.
pub rewritten : (f : List ℕ) → A.Bytes f → check f ≡ accepted
    → (file_of (tablets_in f) (values_in f) (counts_in f) (drop (entry (bodies_in f)) f) ≡ f)
    × ((room : ℕ) → length f ≤ room → write (tablets_in f) (values_in f) (counts_in f) (drop (entry (bodies_in f)) f) room ≡ wrote (length f))
rewritten f b h = (A.same_bytes f b h, A.accepted_again f b h)

-- ---- at the file of D, so that nobody can doubt that the premises can be met

d_written : write 1 2 (2 ∷ []) records_of_d 32 ≡ wrote 32
unfolding write number
d_written = refl

d_file : file_of 1 2 (2 ∷ []) records_of_d ≡ file_of_d
unfolding file_of
d_file = refl

-- the file of D, written, is good and reads back as one body of two records
pub d_reads_back : ReadsBack 1 2 (2 ∷ []) records_of_d 32
d_reads_back = reads_back 1 2 (2 ∷ []) records_of_d 32 32 d_written

-- the file of D, written again, is the file of D
pub d_rewritten : file_of (tablets_in file_of_d) (values_in file_of_d) (counts_in file_of_d) (drop (entry (bodies_in file_of_d)) file_of_d) ≡ file_of_d
d_rewritten = (rewritten file_of_d (A.bytes file_of_d refl) good).0
