-- Document 01, 'The trace file' and the table of refusals 1 to 8: what a good file is, and where any other is refused.
use Rattle.std.specs.Prelude.{ℕ, zero, suc, ◌+◌, ◌-◌, ◌*◌, Bool, cond, not, ◌||◌, List, [], ltb, eqb, length, take, drop}
use Rattle.records.specs.Bytes.{byte, number}
use Rattle.tracefile.specs.Refusals.{Answer, accepted, refused, and_then}
use Rattle.records.specs.Records.{record_at, keeps_row}

-- ---- where things stand

-- byte 1: tablets n; byte 2: values v; byte 3: bodies k
abbrev pub tablets_in : List ℕ → ℕ
tablets_in f = byte f 1

abbrev pub values_in : List ℕ → ℕ
values_in f = byte f 2

abbrev pub bodies_in : List ℕ → ℕ
bodies_in f = byte f 3

-- an entry of the contents has 4 bytes, from byte 4 on
abbrev pub entry : ℕ → ℕ
entry i = 4 + 4 * i

-- the largest record count of a body, and the bytes of a record
abbrev pub most : ℕ
most = 256

abbrev pub record_size : ℕ
record_size = 12

-- an entry: offset (2 bytes), record count (2 bytes)
unfoldable pub offset_in : List ℕ → ℕ → ℕ
offset_in f i = number f (entry i) 2

unfoldable pub count_in : List ℕ → ℕ → ℕ
count_in f i = number f (entry i + 2) 2

unfoldable pub body_size : List ℕ → ℕ → ℕ
unfolding count_in
body_size f i = record_size * count_in f i

-- ---- refusals 1 to 5

abbrev pub outside : ℕ → ℕ → ℕ → Bool
outside low high x = ltb x low || ltb high x

unfoldable pub head : List ℕ → Answer
head f =
    cond (outside 4 65535 (length f)) (refused 1 0)
    (cond (not (eqb (byte f 0) 1)) (refused 2 0)
    (cond (outside 1 8 (tablets_in f)) (refused 3 1)
    (cond (outside 1 64 (values_in f)) (refused 4 2)
    (cond (outside 1 16 (bodies_in f)) (refused 5 3) accepted))))

-- ---- refusal 6

-- entry i is bad where at is the offset expected of it: the offset is another, the count is over 256, or the body passes the
-- file's end
unfoldable pub bad_entry : List ℕ → ℕ → ℕ → Bool
unfolding offset_in count_in body_size
bad_entry f i at = not (eqb (offset_in f i) at) || (ltb most (count_in f i) || ltb (length f) (at + body_size f i))

-- the entries from i on, of which left are left, with the next body at at; after the last, no bytes may be left
unfoldable pub entries : List ℕ → ℕ → ℕ → ℕ → Answer
unfolding bad_entry
entries f zero i at = cond (ltb at (length f)) (refused 6 at) accepted
entries f (suc left) i at = cond (bad_entry f i at) (refused 6 (entry i)) (entries f left (i + 1) (at + body_size f i))

unfoldable pub contents : List ℕ → Answer
unfolding entries
contents f =
    cond (ltb (length f) (entry (bodies_in f))) (refused 6 (length f)) (entries f (bodies_in f) 0 (entry (bodies_in f)))

-- ---- refusal 7: the first bad record in file order, over all bodies

-- the records of a body, of which left are left, from at on; then the rest
unfoldable pub in_body : List ℕ → ℕ → ℕ → (ℕ → Answer) → Answer
unfolding record_at keeps_row
in_body f zero at rest = rest at
in_body f (suc left) at rest =
    cond (keeps_row (tablets_in f) (values_in f) (record_at f at)) (in_body f left (at + record_size) rest) (refused 7 at)

-- the bodies from i on, of which left are left, from at on
unfoldable pub in_bodies : List ℕ → ℕ → ℕ → ℕ → Answer
unfolding in_body count_in
in_bodies f zero i at = accepted
in_bodies f (suc left) i at = in_body f (count_in f i) at (λ next. in_bodies f left (i + 1) next)

unfoldable pub records : List ℕ → Answer
unfolding in_bodies
records f = in_bodies f (bodies_in f) 0 (entry (bodies_in f))

-- ---- the whole file, whichever trace is asked; then the trace number (refusal 8)

unfoldable pub check : List ℕ → Answer
unfolding head contents records
check f = and_then (head f) (and_then (contents f) (records f))

unfoldable pub check_trace : List ℕ → ℕ → Answer
unfolding check
check_trace f t = and_then (check f) (cond (outside 1 (bodies_in f) t) (refused 8 0) accepted)

-- the body of trace t, numbered from 1; where 1 to 8 apply, the part is empty
unfoldable pub part : List ℕ → ℕ → Answer → List ℕ
unfolding offset_in body_size
part f i accepted = take (body_size f i) (drop (offset_in f i) f)
part f i (refused number place) = []

unfoldable pub asked : List ℕ → ℕ → List ℕ
unfolding part check_trace
asked f t = part f (t - 1) (check_trace f t)
