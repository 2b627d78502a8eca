-- Every refusal of a file or of a trace number is one of the table: its number is 1 to 8.
-- Assumes nothing.
use Prim.Native.Nat.{ℕ, zero, suc, ◌+◌, ◌≤◌}
use native.Mathlib.Omega.{arith}
use mathlib.Core.Bool.{Bool, true, false, cond, not}
use mathlib.Core.List.{List}
use lib.Dec.{ltb, eqb}
use lib.ListN.{length}
use Rattle.records.specs.Bytes.{byte}
use Rattle.records.specs.Records.{record_at, keeps_row}
use Rattle.tracefile.specs.Refusals.{Answer, accepted, refused, and_then}
use Rattle.tracefile.specs.File.{tablets_in, values_in, bodies_in, entry, record_size, outside, count_in, body_size, bad_entry, head, entries, contents, in_body, in_bodies, records, check, check_trace}

abbrev pub Listed : Answer → Type 0
Listed accepted = Unit {0}
Listed (refused number place) = (1 ≤ number) × (number ≤ 8)

-- one of two listed answers is listed, and so is the first refusal of two
either : (t : Bool) (x y : Answer) → Listed x → Listed y → Listed (cond t x y)
either true x y p q = p
either false x y p q = q

both : (x y : Answer) → Listed x → Listed y → Listed (and_then x y)
both accepted y p q = q
both (refused number place) y p q = p

head_listed : (f : List ℕ) → Listed (head f)
unfolding head
head_listed f =
    either (outside 4 65535 (length f)) (refused 1 0) _ (omega arith, omega arith)
    (either (not (eqb (byte f 0) 1)) (refused 2 0) _ (omega arith, omega arith)
    (either (outside 1 8 (tablets_in f)) (refused 3 1) _ (omega arith, omega arith)
    (either (outside 1 64 (values_in f)) (refused 4 2) _ (omega arith, omega arith)
    (either (outside 1 16 (bodies_in f)) (refused 5 3) accepted (omega arith, omega arith) tt))))

entries_listed : (f : List ℕ) (left i at : ℕ) → Listed (entries f left i at)
unfolding entries
entries_listed f zero i at = either (ltb at (length f)) (refused 6 at) accepted (omega arith, omega arith) tt
entries_listed f (suc left) i at = either (bad_entry f i at) (refused 6 (entry i)) _ (omega arith, omega arith) (entries_listed f left (i + 1) (at + body_size f i))

in_body_listed : (f : List ℕ) (left at : ℕ) (rest : ℕ → Answer) → ((next : ℕ) → Listed (rest next)) → Listed (in_body f left at rest)
unfolding in_body
in_body_listed f zero at rest h = h at
in_body_listed f (suc left) at rest h =
    either (keeps_row (tablets_in f) (values_in f) (record_at f at)) _ (refused 7 at) (in_body_listed f left (at + record_size) rest h) (omega arith, omega arith)

in_bodies_listed : (f : List ℕ) (left i at : ℕ) → Listed (in_bodies f left i at)
unfolding in_bodies
in_bodies_listed f zero i at = tt
in_bodies_listed f (suc left) i at = in_body_listed f (count_in f i) at (λ next. in_bodies f left (i + 1) next) (λ next. in_bodies_listed f left (i + 1) next)

pub check_listed : (f : List ℕ) → Listed (check f)
unfolding check contents records
check_listed f =
    both (head f) _ (head_listed f)
    (both (contents f) (records f)
    (either (ltb (length f) (entry (bodies_in f))) (refused 6 (length f)) _ (omega arith, omega arith) (entries_listed f (bodies_in f) 0 (entry (bodies_in f))))
    (in_bodies_listed f (bodies_in f) 0 (entry (bodies_in f))))

pub trace_listed : (f : List ℕ) (t : ℕ) → Listed (check_trace f t)
unfolding check_trace
trace_listed f t = both (check f) _ (check_listed f) (either (outside 1 (bodies_in f) t) (refused 8 0) accepted (omega arith, omega arith) tt)
