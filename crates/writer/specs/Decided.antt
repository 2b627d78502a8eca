-- What the writer has found out before it writes: how small each number is, and that the file fits. For the contract of a private
-- function alone.
use Rattle.std.specs.Prelude.{ℕ, ◌≡◌, ◌*◌, ◌≤◌, List, length}
use Rattle.tracefile.specs.File.{most, record_size}
use Rattle.writer.specs.Written.{sum, file_size}

-- What is known of a file of size bytes that was decided on.
pub record Decided (n v : ℕ) (counts records : List ℕ) (room size : ℕ) : Type 0 where
  pub tablets : n ≤ 8
  pub values : v ≤ 64
  pub bodies : length counts ≤ 16
  pub bytes : length records ≡ record_size * sum counts
  pub small : length records ≤ record_size * (16 * most)
  pub whole : size ≡ file_size counts records
  pub fits : size ≤ room
