-- Document 01, the writer: from n, v, the counts of the bodies and all records back to back, a trace file, or a refusal by
-- 3, 4, 5, 6, 7 or 9, in that order.
use Rattle.std.specs.Prelude.{ℕ, zero, suc, ◌+◌, ◌*◌, ◌/◌, ◌%◌, Bool, false, Result, Ok, Err, cond, not, ◌||◌, List, [], ◌∷◌, ◌++◌, ltb, eqb, length, drop}
use Rattle.records.specs.Records.{record_at, keeps_row}
use Rattle.tracefile.specs.File.{entry, most, record_size, outside}
use Rattle.writer.specs.declared.Unwritten.{Unwritten}
use Rattle.writer.specs.declared.Unwritten.TheVariants.{Tablets, Values, Bodies, Counts, BadRecord, Room}

-- what writing comes to: a file of so many bytes, or a refusal's number and place
pub data Outcome : Type 0 where
  wrote : ℕ → Outcome
  refused : ℕ → ℕ → Outcome

-- each refusal's number and place: the place is 0, except for 7
abbrev pub refusal : Unwritten → Outcome
refusal Tablets = refused 3 0
refusal Values = refused 4 0
refusal Bodies = refused 5 0
refusal Counts = refused 6 0
refusal (BadRecord at) = refused 7 at
refusal Room = refused 9 0

abbrev pub told : Result ℕ Unwritten → Outcome
told (Ok bytes) = wrote bytes
told (Err r) = refusal r

-- what a check leaves of the outcome that follows it: its refusal counts first
abbrev pub and_then : Result (Unit {0}) Unwritten → Outcome → Outcome
and_then (Ok _) next = next
and_then (Err r) next = refusal r

-- ---- the file

-- a number in two bytes, least byte first
abbrev pub two_bytes : ℕ → List ℕ
two_bytes x = x % 256 ∷ x / 256 % 256 ∷ []

-- the entries of bodies with these counts, of which the first stands at at
unfoldable pub entries_of : ℕ → List ℕ → List ℕ
entries_of at [] = []
entries_of at (count ∷ counts) = two_bytes at ++ (two_bytes count ++ entries_of (at + record_size * count) counts)

unfoldable pub file_of : ℕ → ℕ → List ℕ → List ℕ → List ℕ
unfolding entries_of
file_of n v counts records = 1 ∷ n ∷ v ∷ length counts ∷ (entries_of (entry (length counts)) counts ++ records)

-- its length
abbrev pub file_size : List ℕ → List ℕ → ℕ
file_size counts records = entry (length counts) + length records

-- ---- what is refused

-- the sum of the counts
unfoldable pub sum : List ℕ → ℕ
sum [] = 0
sum (count ∷ counts) = count + sum counts

-- some count is over 256
unfoldable pub over : List ℕ → Bool
over [] = false
over (count ∷ counts) = ltb most count || over counts

-- the first record that breaks its row, of those left from at on
unfoldable pub bad_record : ℕ → ℕ → List ℕ → ℕ → ℕ → Outcome → Outcome
unfolding record_at keeps_row
bad_record n v records zero at good = good
bad_record n v records (suc left) at good =
    cond (keeps_row n v (record_at records at)) (bad_record n v records left (at + record_size) good) (refused 7 at)

-- 9: the buffer is short of the file
unfoldable pub fitted : List ℕ → List ℕ → ℕ → Outcome
fitted counts records room = cond (ltb room (file_size counts records)) (refused 9 0) (wrote (file_size counts records))

-- 7, and then 9
unfoldable pub rows_then_room : ℕ → ℕ → List ℕ → List ℕ → ℕ → Outcome
unfolding bad_record fitted
rows_then_room n v counts records room = bad_record n v records (length records / record_size) 0 (fitted counts records room)

unfoldable pub write : ℕ → ℕ → List ℕ → List ℕ → ℕ → Outcome
unfolding sum over rows_then_room
write n v counts records room =
    cond (outside 1 8 n) (refused 3 0)
    (cond (outside 1 64 v) (refused 4 0)
    (cond (outside 1 16 (length counts)) (refused 5 0)
    (cond (over counts || not (eqb (length records) (record_size * sum counts))) (refused 6 0)
    (rows_then_room n v counts records room))))

-- the buffer afterwards: the file and then its later bytes as they were, or all of it as it was
unfoldable pub buffer_after : List ℕ → List ℕ → Outcome → List ℕ
buffer_after file buffer (wrote bytes) = file ++ drop bytes buffer
buffer_after file buffer (refused number place) = buffer
