-- What is known of a good file: each test on the way was passed.
-- Assumes nothing.
use mathlib.Core.Bool.{Bool, true, false, cond, not}
use mathlib.Core.List.{List, []}
use mathlib.Core.Path.{◌≡◌, refl, sym, ap, ◌∙◌, subst}
use Prim.Native.Nat.{ℕ, zero, suc, ◌+◌, ◌-◌, ◌*◌, ◌≤◌, ◌<◌}
use native.Mathlib.Nat.{add-sub_cancel_left}
use native.Mathlib.Decide.{ℕ_discrete}
use native.Mathlib.Omega.{arith}
use lib.Dec.{ltb, eqb}
use lib.ListN.{length, take, drop}
use borrow.Author.Tests.{ltb-false, eqb-true, not-false}
use Rattle.records.specs.Bytes.{byte, number}
use Rattle.tracefile.specs.Refusals.{Answer, accepted, refused, refusal, and_then}
use Rattle.tracefile.specs.File.{tablets_in, values_in, bodies_in, outside, entry, offset_in, count_in, body_size, head, bad_entry, entries, contents, records, check, check_trace, part, asked}
use Rattle.tracefile.specs.declared.Refusal.{Refusal}
use Rattle.tracefile.specs.declared.Refusal.TheVariants.{Length, Edition, Tablets, Values, Bodies, Contents, BadRecord, Trace}
use Rattle.std.proofs.lemmas.Bool.{or_parts}

-- where two checks accept, so does each
pub both : (a b : Answer) → and_then a b ≡ accepted → (a ≡ accepted) × (b ≡ accepted)
both accepted b h = (refl, h)
both (refused k p) b h = let z : ◌≡◌ {A = ℕ} 0 1 = cc in absurd (omega arith)

-- a test that would have refused was not met
pub passed : (t : Bool) (k p : ℕ) (next : Answer) → cond t (refused k p) next ≡ accepted → (t ≡ false) × (next ≡ accepted)
passed true k p next h = let z : ◌≡◌ {A = ℕ} 0 1 = cc in absurd (omega arith)
passed false k p next h = (refl, h)

-- a number that is not outside is inside
pub inside : (low high x : ℕ) → outside low high x ≡ false → (low ≤ x) × (x ≤ high)
inside low high x h =
    let r = or_parts (ltb x low) (ltb high x) h in
    (ltb-false x low r.0, ltb-false high x r.1)

-- ---- the head

pub record Head (f : List ℕ) : Type 0 where
  pub long : 4 ≤ length f
  pub short : length f ≤ 65535
  pub edition : byte f 0 ≡ 1
  pub tablets : (1 ≤ tablets_in f) × (tablets_in f ≤ 8)
  pub values : (1 ≤ values_in f) × (values_in f ≤ 64)
  pub bodies : (1 ≤ bodies_in f) × (bodies_in f ≤ 16)

pub good_head : (f : List ℕ) → head f ≡ accepted → Head f
unfolding head
good_head f h =
    let a = passed (outside 4 65535 (length f)) 1 0 _ h in
    let b = passed (not (eqb (byte f 0) 1)) 2 0 _ a.1 in
    let c = passed (outside 1 8 (tablets_in f)) 3 1 _ b.1 in
    let d = passed (outside 1 64 (values_in f)) 4 2 _ c.1 in
    let e = passed (outside 1 16 (bodies_in f)) 5 3 accepted d.1 in
    let l = inside 4 65535 (length f) a.0 in
    record {
      long = l.0;
      short = l.1;
      edition = eqb-true (byte f 0) 1 (not-false (eqb (byte f 0) 1) b.0);
      tablets = inside 1 8 (tablets_in f) c.0;
      values = inside 1 64 (values_in f) d.0;
      bodies = inside 1 16 (bodies_in f) e.0;
    }

-- ---- the contents

-- an entry that is not bad: the expected offset, few records, a body within the file
pub record Entry (f : List ℕ) (i at : ℕ) : Type 0 where
  pub offset : offset_in f i ≡ at
  pub few : count_in f i ≤ 256
  pub within : at + body_size f i ≤ length f

pub good_entry : (f : List ℕ) (i at : ℕ) → bad_entry f i at ≡ false → Entry f i at
unfolding bad_entry
good_entry f i at h =
    let a = or_parts (not (eqb (offset_in f i) at)) _ h in
    let b = or_parts (ltb 256 (count_in f i)) _ a.1 in
    record {
      offset = eqb-true (offset_in f i) at (not-false (eqb (offset_in f i) at) a.0);
      few = ltb-false 256 (count_in f i) b.0;
      within = ltb-false (length f) (at + body_size f i) b.1;
    }

-- every entry of a good file has its body within the file
pub bodies_within : (f : List ℕ) (left i at : ℕ) → entries f left i at ≡ accepted → (j : ℕ) → i ≤ j → j < i + left
    → (offset_in f j + body_size f j ≤ length f) × (count_in f j ≤ 256)
unfolding entries
bodies_within f zero i at h j l m = absurd (omega arith)
bodies_within f (suc left) i at h j l m =
    let a = passed (bad_entry f i at) 6 (entry i) _ h in
    let e = good_entry f i at a.0 in
    elim (ℕ_discrete j i) [
      | yes q ↦ (
        subst (λ (x : ℕ). offset_in f x + body_size f x ≤ length f) (sym q) (subst (λ (o : ℕ). o + body_size f i ≤ length f) (sym e.offset) e.within),
        subst (λ (x : ℕ). count_in f x ≤ 256) (sym q) e.few,
      )
      | no q ↦ bodies_within f left (i + 1) (at + body_size f i) a.1 j (omega arith) (omega arith)
    ]

pub good_contents : (f : List ℕ) → contents f ≡ accepted → (entry (bodies_in f) ≤ length f) × (entries f (bodies_in f) 0 (entry (bodies_in f)) ≡ accepted)
unfolding contents
good_contents f h =
    let a = passed (ltb (length f) (entry (bodies_in f))) 6 (length f) _ h in
    (ltb-false (length f) (entry (bodies_in f)) a.0, a.1)

-- ---- the whole file

pub record File (f : List ℕ) : Type 0 where
  pub of_head : Head f
  pub of_contents : contents f ≡ accepted
  pub of_records : records f ≡ accepted

pub good_file : (f : List ℕ) → check f ≡ accepted → File f
unfolding check
good_file f h =
    let a = both (head f) _ h in
    let b = both (contents f) (records f) a.1 in
    record { of_head = good_head f a.0; of_contents = b.0; of_records = b.1 }

-- a trace that is there
pub good_trace : (f : List ℕ) (t : ℕ) → check_trace f t ≡ accepted → (check f ≡ accepted) × ((1 ≤ t) × (t ≤ bodies_in f))
unfolding check_trace
good_trace f t h =
    let a = both (check f) _ h in
    let b = passed (outside 1 (bodies_in f) t) 8 0 accepted a.1 in
    (a.0, inside 1 (bodies_in f) t b.0)

-- its body is within the file, and its number is small
pub record There (f : List ℕ) (t : ℕ) : Type 0 where
  pub from_one : 1 ≤ t
  pub small : t ≤ 16
  pub within : offset_in f (t - 1) + body_size f (t - 1) ≤ length f
  pub few : count_in f (t - 1) ≤ 256

pub there : (f : List ℕ) (t : ℕ) → check_trace f t ≡ accepted → There f t
there f t h =
    let g = good_trace f t h in
    let file = good_file f g.0 in
    let k = file.of_head.bodies in
    let c = good_contents f file.of_contents in
    let w = bodies_within f (bodies_in f) 0 (entry (bodies_in f)) c.1 (t - 1) (omega arith) (omega arith) in
    record { from_one = g.1.0; small = omega arith; within = w.0; few = w.1 }

-- ---- the asked body

no_part : (f : List ℕ) (i : ℕ) (r : Refusal) → part f i (refusal r) ≡ []
unfolding part
no_part f i Length = refl
no_part f i Edition = refl
no_part f i Tablets = refl
no_part f i Values = refl
no_part f i Bodies = refl
no_part f i (Contents at) = refl
no_part f i (BadRecord at) = refl
no_part f i Trace = refl

-- where the file or the trace is refused, nothing is handed back
pub asked_nothing : (f : List ℕ) (t : ℕ) (r : Refusal) → refusal r ≡ check_trace f t → asked f t ≡ []
unfolding asked
asked_nothing f t r h = ap (part f (t - 1)) (sym h) ∙ no_part f (t - 1) r

pub asked_part : (f : List ℕ) (t : ℕ) → check_trace f t ≡ accepted → asked f t ≡ take (body_size f (t - 1)) (drop (offset_in f (t - 1)) f)
unfolding asked part
asked_part f t h = ap (part f (t - 1)) h

-- entry t - 1 of the contents stands at byte 4 t: what is read there places the part
entry_of : (f : List ℕ) (t : ℕ) → There f t → (number f (4 * t) 2 ≡ offset_in f (t - 1)) × (number f (4 * t + 2) 2 ≡ count_in f (t - 1))
unfolding offset_in count_in
entry_of f t r =
    let e : 4 * t ≡ entry (t - 1) = omega (arith, r.from_one) in
    (ap (λ (x : ℕ). number f x 2) e, ap (λ (x : ℕ). number f (x + 2) 2) e)

pub placed_within : (f : List ℕ) (t : ℕ) → accepted ≡ check_trace f t → number f (4 * t) 2 + 12 * number f (4 * t + 2) 2 ≤ length f
unfolding body_size
placed_within f t h =
    let r = there f t (sym h) in
    let e = entry_of f t r in
    rw (e.0, e.1) r.within

pub placed_part : (f : List ℕ) (t : ℕ) → accepted ≡ check_trace f t → asked f t ≡ take (12 * number f (4 * t + 2) 2) (drop (number f (4 * t) 2) f)
unfolding body_size
placed_part f t h =
    let e = entry_of f t (there f t (sym h)) in
    rw (e.0, e.1) (asked_part f t (sym h))

pub ruleset placed = (placed_within, placed_part, add-sub_cancel_left)
