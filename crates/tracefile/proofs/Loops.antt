-- The checks of a file as their loops go: one entry after the other, one body after the other, one record after the other.
-- Assumes nothing.
use mathlib.Core.Bool.{cond, not, ◌||◌}
use mathlib.Core.List.{List}
use mathlib.Core.Path.{◌≡◌, refl, ap}
use Prim.Native.Nat.{ℕ, suc, ◌+◌, ◌-◌, ◌*◌, ◌<◌}
use native.Mathlib.Omega.{arith}
use lib.Dec.{ltb, eqb}
use lib.ListN.{length}
use Rattle.records.specs.Bytes.{byte, number}
use Rattle.records.specs.Records.{record_at, keeps_row}
use Rattle.tracefile.specs.Refusals.{Answer, accepted, refused, refusal, and_then}
use Rattle.tracefile.specs.declared.Refusal.{Refusal}
use Rattle.tracefile.specs.declared.Refusal.TheVariants.{Length, Edition, Tablets, Values, Bodies, Contents, BadRecord, Trace}
use Rattle.tracefile.specs.File.{offset_in, count_in, body_size, bad_entry, entries, in_body, in_bodies}

-- one more is left
one_more : (k i : ℕ) → i < k → k - i ≡ suc (k - (i + 1))
one_more k i h = omega arith

none_left : (k : ℕ) → k - k ≡ 0
none_left k = omega arith

-- ---- the entries

-- the entries that are left begin with the next one
pub entries_on : (f : List ℕ) (k i at : ℕ) → i < k
    → entries f (k - i) i at
    ≡ cond (not (eqb (number f (4 + 4 * i) 2) at) || (ltb 256 (number f (4 + 4 * i + 2) 2) || ltb (length f) (at + 12 * number f (4 + 4 * i + 2) 2)))
    (refused 6 (4 + 4 * i))
    (entries f (k - (i + 1)) (i + 1) (at + 12 * number f (4 + 4 * i + 2) 2))
unfolding entries bad_entry offset_in count_in body_size
entries_on f k i at h = rw (one_more k i h)

-- after the last entry, bytes are left or not
pub entries_end : (f : List ℕ) (k at : ℕ) → entries f (k - k) k at ≡ cond (ltb at (length f)) (refused 6 at) accepted
unfolding entries
entries_end f k at = rw (none_left k)

pub ruleset contents_steps = (entries_on, entries_end)

-- ---- the records

-- the bodies that are left begin with the next one
pub bodies_on : (f : List ℕ) (k i at : ℕ) → i < k
    → in_bodies f (k - i) i at ≡ in_body f (number f (4 + 4 * i + 2) 2) at (λ next. in_bodies f (k - (i + 1)) (i + 1) next)
unfolding in_bodies count_in
bodies_on f k i at h = rw (one_more k i h)

pub bodies_end : (f : List ℕ) (k at : ℕ) → in_bodies f (k - k) k at ≡ accepted
unfolding in_bodies
bodies_end f k at = rw (none_left k)

-- the records that are left of a body begin with the next one
pub body_on : (f : List ℕ) (k i at : ℕ) (rest : ℕ → Answer) → i < k
    → in_body f (k - i) (at + 12 * i) rest
    ≡ cond (keeps_row (byte f 1) (byte f 2) (record_at f (at + 12 * i))) (in_body f (k - (i + 1)) (at + 12 * (i + 1)) rest) (refused 7 (at + 12 * i))
unfolding in_body
body_on f k i at rest h =
    let e : at + 12 * i + 12 ≡ at + 12 * (i + 1) = omega arith in
    rw (one_more k i h) (ap (λ (x : ℕ). cond (keeps_row (byte f 1) (byte f 2) (record_at f (at + 12 * i))) (in_body f (k - (i + 1)) x rest) (refused 7 (at + 12 * i))) e)

pub body_end : (f : List ℕ) (k at : ℕ) (rest : ℕ → Answer) → in_body f (k - k) at rest ≡ rest at
unfolding in_body
body_end f k at rest = rw (none_left k)

pub ruleset records_steps = (bodies_on, bodies_end, body_on, body_end)

-- ---- one check after the other

-- a refusal stays, whatever comes after it
stays : (r : Refusal) (next : Answer) → and_then (refusal r) next ≡ refusal r
stays Length next = refl
stays Edition next = refl
stays Tablets next = refl
stays Values next = refl
stays Bodies next = refl
stays (Contents at) next = refl
stays (BadRecord at) next = refl
stays Trace next = refl

-- the first check refuses, or it passes
pub refuses : (a next : Answer) (r : Refusal) → refusal r ≡ a → and_then a next ≡ refusal r
refuses a next r h = rw (← h) (stays r next)

pub passes : (a next : Answer) → accepted ≡ a → and_then a next ≡ next
passes a next h = rw (← h)

pub ruleset first_refusal = (refuses, passes)
