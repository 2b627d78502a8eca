-- How a written file lies in bytes: each entry where it belongs, then the records.
-- Assumes nothing.
use mathlib.Core.Bool.{Bool, true, false, cond}
use mathlib.Core.List.{List, [], ◌∷◌, ◌++◌}
use mathlib.Core.Path.{◌≡◌, refl, sym, ap, ap₂, ◌∙◌}
use Prim.Native.Nat.{ℕ, zero, suc, ◌+◌, ◌*◌, ◌/◌, ◌%◌, ◌≤◌, ◌<◌}
use native.Mathlib.Nat.{add-zero}
use native.Mathlib.Omega.{arith}
use lib.Dec.{ltb}
use lib.ListN.{length, get_or, drop}
use lib.Seq.{get_or-drop, drop-drop, drop-append-add}
use borrow.Author.Tests.{le-ltb, eq-eqb, ltb-false}
use Rattle.records.specs.Bytes.{byte, number}
use Rattle.records.specs.Records.{record_at, keeps_row}
use Rattle.records.proofs.Numbers.{number_2}
use Rattle.std.proofs.lemmas.Bool.{or_parts}
use Rattle.tracefile.specs.Refusals.{Answer, accepted, refused}
use Rattle.tracefile.specs.File.{tablets_in, values_in, entry, offset_in, count_in, body_size, bad_entry, entries, in_body, in_bodies}
use Rattle.writer.specs.Written.{entries_of, two_bytes, sum, over}

-- two bytes of a number, read back
pub two_back : (f : List ℕ) (at x : ℕ) (rest : List ℕ) → x < 65536 → drop at f ≡ two_bytes x ++ rest → number f at 2 ≡ x
two_back f at x rest h e =
    let low : byte f at ≡ x % 256 = ap (λ (k : ℕ). get_or f k 0) (sym (add-zero at)) ∙ sym (get_or-drop at f 0 0) ∙ ap (λ (l : List ℕ). get_or l 0 0) e in
    let high : byte f (at + 1) ≡ x / 256 % 256 = sym (get_or-drop at f 1 0) ∙ ap (λ (l : List ℕ). get_or l 1 0) e in
    number_2 f at ∙ ap₂ (λ (a b : ℕ). a + 256 * b) low high ∙ omega arith

-- what stands after the first bytes of a part
pub later : (f : List ℕ) (at k : ℕ) (front rest : List ℕ) → length front ≡ k → drop at f ≡ front ++ rest → drop (at + k) f ≡ rest
later f at k front rest l e =
    sym (drop-drop k at f) ∙ ap (drop k) e ∙ ap (λ (i : ℕ). drop i (front ++ rest)) (sym l ∙ sym (add-zero (length front))) ∙ drop-append-add front rest 0

-- ---- the entries

-- an entry with the expected offset, few records and a body within the file is not bad
pub entry_fine : (f : List ℕ) (i at : ℕ) → offset_in f i ≡ at → count_in f i ≤ 256 → at + body_size f i ≤ length f → bad_entry f i at ≡ false
unfolding bad_entry
entry_fine f i at p q h = rw (eq-eqb (offset_in f i) at p, le-ltb 256 (count_in f i) q, le-ltb (length f) (at + body_size f i) h)

-- The entries from i on stand where they belong: those of the counts left, with the next body at at, and then the rest.
pub record Entry (f : List ℕ) (i at count : ℕ) (counts rest : List ℕ) : Type 0 where
  pub offset : offset_in f i ≡ at
  pub number_of : count_in f i ≡ count
  pub others : drop (entry (i + 1)) f ≡ entries_of (at + 12 * count) counts ++ rest

pub first_entry : (f : List ℕ) (i at count : ℕ) (counts rest : List ℕ) → at < 65536 → count < 65536
    → drop (entry i) f ≡ entries_of at (count ∷ counts) ++ rest → Entry f i at count counts rest
unfolding entries_of offset_in count_in
first_entry f i at count counts rest h k e =
    let next : entry i + 4 ≡ entry (i + 1) = omega arith in
    record {
      offset = two_back f (entry i) at (two_bytes count ++ (entries_of (at + 12 * count) counts ++ rest)) h e;
      number_of =
          two_back f (entry i + 2) count (entries_of (at + 12 * count) counts ++ rest) k
          (later f (entry i) 2 (two_bytes at) (two_bytes count ++ (entries_of (at + 12 * count) counts ++ rest)) refl e);
      others =
          ap (λ (x : ℕ). drop x f) (sym next)
          ∙ later f (entry i) 4 (two_bytes at ++ two_bytes count) (entries_of (at + 12 * count) counts ++ rest) refl e;
    }

-- every count is at most 256
pub few : (count : ℕ) (counts : List ℕ) → over (count ∷ counts) ≡ false → (count ≤ 256) × (over counts ≡ false)
unfolding over
few count counts h =
    let r = or_parts (ltb 256 count) (over counts) h in
    (ltb-false 256 count r.0, r.1)

-- the entries are accepted
pub entries_good : (f counts rest : List ℕ) (i at : ℕ) → drop (entry i) f ≡ entries_of at counts ++ rest → over counts ≡ false
    → at + 12 * sum counts ≡ length f → length f ≤ 65535 → entries f (length counts) i at ≡ accepted
unfolding entries sum
entries_good f [] rest i at e o l s = ap (λ (b : Bool). cond b (refused 6 at) accepted) (le-ltb at (length f) (omega arith))
entries_good f (count ∷ counts) rest i at e o l s =
    let w = few count counts o in
    let r = first_entry f i at count counts rest (omega arith) (omega arith) e in
    let size : body_size f i ≡ 12 * count = ap (λ (x : ℕ). 12 * x) r.number_of in
    let fine : bad_entry f i at ≡ false = entry_fine f i at r.offset (rw r.number_of w.0) (rw size (omega arith)) in
    ap (λ (b : Bool). cond b (refused 6 (entry i)) (entries f (length counts) (i + 1) (at + body_size f i))) fine
    ∙ ap (λ (x : ℕ). entries f (length counts) (i + 1) (at + x)) size
    ∙ entries_good f counts rest (i + 1) (at + 12 * count) r.others w.1 (omega arith) s

-- ---- the records

-- records that keep their rows from a place on
abbrev pub Rows : ℕ → ℕ → List ℕ → ℕ → ℕ → Type 0
Rows n v f at left = (j : ℕ) → j < left → keeps_row n v (record_at f (at + 12 * j)) ≡ true

shifted : (n v : ℕ) (f : List ℕ) (at j : ℕ) → keeps_row n v (record_at f (at + 12 * (j + 1))) ≡ true → keeps_row n v (record_at f (at + 12 + 12 * j)) ≡ true
shifted n v f at j h = let e : at + 12 + 12 * j ≡ at + 12 * (j + 1) = omega arith in ap (λ (x : ℕ). keeps_row n v (record_at f x)) e ∙ h

shifted_by : (n v : ℕ) (f : List ℕ) (at k j : ℕ) → keeps_row n v (record_at f (at + 12 * (k + j))) ≡ true → keeps_row n v (record_at f (at + 12 * k + 12 * j)) ≡ true
shifted_by n v f at k j h = let e : at + 12 * k + 12 * j ≡ at + 12 * (k + j) = omega arith in ap (λ (x : ℕ). keeps_row n v (record_at f x)) e ∙ h

pub body_good : (f : List ℕ) (left at : ℕ) (rest : ℕ → Answer) → Rows (tablets_in f) (values_in f) f at left → in_body f left at rest ≡ rest (at + 12 * left)
unfolding in_body
body_good f zero at rest h = ap rest (sym (add-zero at))
body_good f (suc left) at rest h =
    let here : keeps_row (tablets_in f) (values_in f) (record_at f at) ≡ true =
    ap (λ (x : ℕ). keeps_row (tablets_in f) (values_in f) (record_at f x)) (sym (add-zero at)) ∙ h 0 (omega arith) in
    let there : at + 12 + 12 * left ≡ at + 12 * suc left = omega arith in
    ap (λ (b : Bool). cond b (in_body f left (at + 12) rest) (refused 7 at)) here
    ∙ body_good f left (at + 12) rest (λ j l. shifted (tablets_in f) (values_in f) f at j (h (j + 1) (omega arith)))
    ∙ ap rest there

pub bodies_good : (f counts rest : List ℕ) (i e at : ℕ) → drop (entry i) f ≡ entries_of e counts ++ rest → over counts ≡ false → e + 12 * sum counts ≤ 65535
    → Rows (tablets_in f) (values_in f) f at (sum counts) → in_bodies f (length counts) i at ≡ accepted
unfolding in_bodies sum
bodies_good f [] rest i e at d o l h = refl
bodies_good f (count ∷ counts) rest i e at d o l h =
    let w = few count counts o in
    let r = first_entry f i e count counts rest (omega arith) (omega arith) d in
    ap (λ (c : ℕ). in_body f c at (λ next. in_bodies f (length counts) (i + 1) next)) r.number_of
    ∙ body_good f count at (λ next. in_bodies f (length counts) (i + 1) next) (λ j k. h j (omega arith))
    ∙ bodies_good f counts rest (i + 1) (e + 12 * count) (at + 12 * count) r.others w.1 (omega arith)
    (λ j k. shifted_by (tablets_in f) (values_in f) f at count j (h (count + j) (omega arith)))
