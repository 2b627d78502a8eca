-- A good file written again from what was read is the same bytes, and the writer accepts it.
-- Assumes nothing.
use mathlib.Core.Bool.{Bool, true, false, cond}
use mathlib.Core.List.{List, [], ◌∷◌, ◌++◌}
use mathlib.Core.Path.{◌≡◌, refl, sym, ap, ap₂, ◌∙◌, subst}
use Prim.Native.Nat.{ℕ, zero, suc, ◌+◌, ◌-◌, ◌*◌, ◌/◌, ◌%◌, ◌≤◌, ◌<◌}
use native.Mathlib.Nat.{zero-add, add-zero, mod-eq_of_lt}
use native.Mathlib.Decide.{dec_lt}
use native.Mathlib.Omega.{arith}
use lib.Dec.{ltb}
use lib.ListN.{length, drop, length-drop}
use lib.Pow.{are_bytes}
use Rattle.std.proofs.lemmas.Bool.{and_parts}
use borrow.Author.Tests.{le-ltb, eq-eqb, ltb-false, ltb-true}
use Rattle.records.specs.Bytes.{byte, number}
use Rattle.records.specs.Records.{record_at, keeps_row}
use Rattle.records.proofs.Numbers.{number_2}
use Rattle.tracefile.specs.Refusals.{Answer, accepted}
use Rattle.tracefile.specs.Refusals as R
use Rattle.tracefile.specs.File.{tablets_in, values_in, bodies_in, entry, offset_in, count_in, body_size, bad_entry, entries, in_body, in_bodies, records, check}
use Rattle.tracefile.proofs.Good.{passed, good_entry, good_contents, good_file, File}
use Rattle.writer.specs.Written.{Outcome, wrote, refused, two_bytes, entries_of, file_of, file_size, sum, over, bad_record, fitted, write}
use Rattle.writer.specs.RoundTrip.{counts_from, counts_in}
use Rattle.writer.proofs.Laid.{Rows}
use Rattle.records.proofs.Parts.{record_drop}
use Rattle.writer.proofs.Four.{four}

-- every element of the list is a byte
abbrev pub Bytes : List ℕ → Type 0
Bytes f = (i : ℕ) → byte f i < 256

-- two bytes make the number that they are read as
same_two : (f : List ℕ) (at : ℕ) → Bytes f → two_bytes (number f at 2) ≡ byte f at ∷ byte f (at + 1) ∷ []
same_two f at b =
    let x = b at in
    let y = b (at + 1) in
    let low : (byte f at + 256 * byte f (at + 1)) % 256 ≡ byte f at = omega arith in
    let whole : (byte f at + 256 * byte f (at + 1)) / 256 ≡ byte f (at + 1) = omega arith in
    let high : (byte f at + 256 * byte f (at + 1)) / 256 % 256 ≡ byte f (at + 1) = ap (λ (k : ℕ). k % 256) whole ∙ mod-eq_of_lt y in
    ap two_bytes (number_2 f at) ∙ ap₂ (λ (p q : ℕ). p ∷ q ∷ []) low high

-- ---- the entries

counts_length : (f : List ℕ) (left i : ℕ) → length (counts_from f i left) ≡ left
unfolding counts_from
counts_length f zero i = refl
counts_length f (suc left) i = ap suc (counts_length f left (i + 1))

counts_few : (f : List ℕ) (left i at : ℕ) → entries f left i at ≡ accepted → over (counts_from f i left) ≡ false
unfolding entries counts_from over
counts_few f zero i at h = refl
counts_few f (suc left) i at h =
    let a = passed (bad_entry f i at) 6 (entry i) _ h in
    let e = good_entry f i at a.0 in
    rw (le-ltb 256 (count_in f i) e.few) (counts_few f left (i + 1) (at + body_size f i) a.1)

counts_total : (f : List ℕ) (left i at : ℕ) → at ≤ length f → entries f left i at ≡ accepted → at + 12 * sum (counts_from f i left) ≡ length f
unfolding entries counts_from sum body_size
counts_total f zero i at l h = let a = ltb-false at (length f) (passed (ltb at (length f)) 6 at accepted h).0 in omega arith
counts_total f (suc left) i at l h =
    let a = passed (bad_entry f i at) 6 (entry i) _ h in
    let e = (good_entry f i at a.0).within in
    let r = counts_total f left (i + 1) (at + body_size f i) e a.1 in
    omega arith

rebuilt : (f : List ℕ) (left i at : ℕ) → Bytes f → entries f left i at ≡ accepted → entry (i + left) ≤ length f
    → entries_of at (counts_from f i left) ++ drop (entry (i + left)) f ≡ drop (entry i) f
unfolding entries counts_from entries_of offset_in count_in body_size
rebuilt f zero i at b h l = ap (λ (x : ℕ). drop (entry x) f) (add-zero i)
rebuilt f (suc left) i at b h l =
    let a = passed (bad_entry f i at) 6 (entry i) _ h in
    let e = good_entry f i at a.0 in
    let q : i + suc left ≡ i + 1 + left = omega arith in
    let ih = rebuilt f left (i + 1) (at + body_size f i) b a.1 (subst (λ (x : ℕ). entry x ≤ length f) q l) in
    let n : entry i + 4 ≡ entry (i + 1) = omega arith in
    let place : entry i + 2 + 1 ≡ entry i + 3 = omega arith in
    ap₂ (λ (o c : List ℕ). o ++ (c ++ (entries_of (at + body_size f i) (counts_from f (i + 1) left))) ++ drop (entry (i + suc left)) f)
    (ap two_bytes (sym e.offset) ∙ same_two f (entry i) b) (same_two f (entry i + 2) b)
    ∙ ap₂ (λ (y : ℕ) (x : List ℕ). byte f (entry i) ∷ byte f (entry i + 1) ∷ byte f (entry i + 2) ∷ byte f y ∷ x) place
    (ap (λ (z : ℕ). entries_of (at + body_size f i) (counts_from f (i + 1) left) ++ drop (entry z) f) q ∙ ih ∙ ap (λ (y : ℕ). drop y f) (sym n))
    ∙ sym (four f (entry i) (omega arith))

-- ---- the records

rows_of_body : (f : List ℕ) (left at : ℕ) (rest : ℕ → Answer) → in_body f left at rest ≡ accepted
    → Rows (tablets_in f) (values_in f) f at left × (rest (at + 12 * left) ≡ accepted)
unfolding in_body
rows_of_body f zero at rest h = (λ j l. absurd (omega arith), ap rest (add-zero at) ∙ h)
rows_of_body f (suc left) at rest h = go (keeps_row (tablets_in f) (values_in f) (record_at f at)) refl h (rows_of_body f left (at + 12) rest)
  where
    go : (b : Bool) → keeps_row (tablets_in f) (values_in f) (record_at f at) ≡ b → cond b (in_body f left (at + 12) rest) (R.refused 7 at) ≡ accepted
        → (in_body f left (at + 12) rest ≡ accepted → Rows (tablets_in f) (values_in f) f (at + 12) left × (rest (at + 12 + 12 * left) ≡ accepted))
        → Rows (tablets_in f) (values_in f) f at (suc left) × (rest (at + 12 * suc left) ≡ accepted)
    go true e g ih =
        let r = ih g in
        let q : at + 12 * suc left ≡ at + 12 + 12 * left = omega arith in
        (λ j l. first j l r.0, ap rest q ∙ r.1)
      where
        first : (j : ℕ) → j < suc left → Rows (tablets_in f) (values_in f) f (at + 12) left → keeps_row (tablets_in f) (values_in f) (record_at f (at + 12 * j)) ≡ true
        first zero l k = ap (λ (x : ℕ). keeps_row (tablets_in f) (values_in f) (record_at f x)) (add-zero at) ∙ e
        first (suc j) l k =
            let p : at + 12 * suc j ≡ at + 12 + 12 * j = omega arith in
            ap (λ (x : ℕ). keeps_row (tablets_in f) (values_in f) (record_at f x)) p ∙ k j (omega arith)
    go false e g ih = let z : ◌≡◌ {A = ℕ} 0 1 = cc in absurd (omega arith)

rows_of_bodies : (f : List ℕ) (left i at : ℕ) → in_bodies f left i at ≡ accepted → Rows (tablets_in f) (values_in f) f at (sum (counts_from f i left))
unfolding in_bodies counts_from sum
rows_of_bodies f zero i at h j l = absurd (omega arith)
rows_of_bodies f (suc left) i at h j l =
    let r = rows_of_body f (count_in f i) at (λ next. in_bodies f left (i + 1) next) h in
    elim (dec_lt j (count_in f i)) [
      | yes g ↦ r.0 j g
      | no g ↦
          (let q : at + 12 * j ≡ at + 12 * count_in f i + 12 * (j - count_in f i) = omega arith in
          ap (λ (x : ℕ). keeps_row (tablets_in f) (values_in f) (record_at f x)) q
          ∙ rows_of_bodies f left (i + 1) (at + 12 * count_in f i) r.1 (j - count_in f i) (omega arith))
    ]

-- rows that are kept are accepted
rows_accepted : (n v : ℕ) (rs : List ℕ) (left at : ℕ) (good : Outcome) → Rows n v rs at left → bad_record n v rs left at good ≡ good
unfolding bad_record
rows_accepted n v rs zero at good h = refl
rows_accepted n v rs (suc left) at good h =
    let here : keeps_row n v (record_at rs at) ≡ true = ap (λ (x : ℕ). keeps_row n v (record_at rs x)) (sym (add-zero at)) ∙ h 0 (omega arith) in
    ap (λ (b : Bool). cond b (bad_record n v rs left (at + 12) good) (refused 7 at)) here ∙ rows_accepted n v rs left (at + 12) good (λ j l. later j l)
  where
    later : (j : ℕ) → j < left → keeps_row n v (record_at rs (at + 12 + 12 * j)) ≡ true
    later j l =
        let q : at + 12 + 12 * j ≡ at + 12 * (j + 1) = omega arith in
        ap (λ (x : ℕ). keeps_row n v (record_at rs x)) q ∙ h (j + 1) (omega arith)

-- ---- the file

module _ (f : List ℕ) (b : Bytes f) (h : check f ≡ accepted) where
  whole : File f
  whole = good_file f h

  -- all records, back to back
  abbrev rs : List ℕ
  rs = drop (entry (bodies_in f)) f

  room_for : entry (bodies_in f) ≤ length f
  room_for = (good_contents f whole.of_contents).0

  listed : entries f (bodies_in f) 0 (entry (bodies_in f)) ≡ accepted
  listed = (good_contents f whole.of_contents).1

  pub same_bytes : file_of (tablets_in f) (values_in f) (counts_in f) rs ≡ f
  unfolding file_of counts_in
  same_bytes =
      let k = counts_length f (bodies_in f) 0 in
      let z : entry (0 + bodies_in f) ≡ entry (bodies_in f) = omega arith in
      let g = rebuilt f (bodies_in f) 0 (entry (bodies_in f)) b listed (subst (λ (x : ℕ). x ≤ length f) (sym z) room_for) in
      ap₂ (λ (c : ℕ) (l : List ℕ). 1 ∷ tablets_in f ∷ values_in f ∷ c ∷ l) k
      (ap₂ (λ (x y : ℕ). entries_of (entry x) (counts_from f 0 (bodies_in f)) ++ drop y f) k (sym z) ∙ g)
      ∙ ap (λ (x : ℕ). x ∷ tablets_in f ∷ values_in f ∷ bodies_in f ∷ drop 4 f) (sym whole.of_head.edition)
      ∙ sym (four f 0 whole.of_head.long)

  total : length rs ≡ 12 * sum (counts_in f)
  unfolding counts_in
  total =
      let t = counts_total f (bodies_in f) 0 (entry (bodies_in f)) room_for listed in
      let l = length-drop (entry (bodies_in f)) f in
      omega arith

  rows : Rows (tablets_in f) (values_in f) rs 0 (length rs / 12)
  unfolding counts_in records
  rows j l =
      let t = total in
      rw (record_drop f (entry (bodies_in f)) (0 + 12 * j) room_for, zero-add (12 * j))
      (rows_of_bodies f (bodies_in f) 0 (entry (bodies_in f)) whole.of_records j (omega arith))

  size : file_size (counts_in f) rs ≡ length f
  unfolding counts_in
  size =
      let k = counts_length f (bodies_in f) 0 in
      let l = length-drop (entry (bodies_in f)) f in
      let r = room_for in
      omega arith

  pub accepted_again : (room : ℕ) → length f ≤ room → write (tablets_in f) (values_in f) (counts_in f) rs room ≡ wrote (length f)
  unfolding write counts_in
  accepted_again room g =
      let hd = whole.of_head in
      let k = counts_length f (bodies_in f) 0 in
      rw (
        le-ltb (tablets_in f) 1 hd.tablets.0,
        le-ltb 8 (tablets_in f) hd.tablets.1,
        le-ltb (values_in f) 1 hd.values.0,
        le-ltb 64 (values_in f) hd.values.1,
        le-ltb (length (counts_from f 0 (bodies_in f))) 1 (rw k hd.bodies.0),
        le-ltb 16 (length (counts_from f 0 (bodies_in f))) (rw k hd.bodies.1),
        counts_few f (bodies_in f) 0 (entry (bodies_in f)) listed,
        eq-eqb (length rs) (12 * sum (counts_from f 0 (bodies_in f))) total,
      )
      (rows_accepted (tablets_in f) (values_in f) rs (length rs / 12) 0 (fitted (counts_in f) rs room) rows ∙ fits)
    where
      fits : fitted (counts_in f) rs room ≡ wrote (length f)
      fits = rw (size, le-ltb room (length f) g)

-- a list that is tested byte by byte is one of bytes
pub bytes : (f : List ℕ) → are_bytes f ≡ true → Bytes f
bytes [] t i = omega arith
bytes (x ∷ f) t zero = ltb-true x 256 (and_parts (ltb x 256) (are_bytes f) t).0
bytes (x ∷ f) t (suc i) = bytes f (and_parts (ltb x 256) (are_bytes f) t).1 i
