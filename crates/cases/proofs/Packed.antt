-- Numbers and parts of a case, read as they are defined.
-- Assumes nothing.
use mathlib.Core.Bool.{Bool, true, false, ◌&&◌}
use mathlib.Core.List.{List, [], ◌∷◌}
use mathlib.Core.Path.{◌≡◌, refl, sym, ap, ◌∙◌}
use Prim.Native.Nat.{ℕ, suc, ◌+◌, ◌-◌, ◌*◌, ◌≤◌, ◌<◌}
use native.Mathlib.Nat.{add_assoc, add-zero}
use native.Mathlib.Decide.{dec_le}
use native.Mathlib.Omega.{arith}
use lib.Dec.{eqb, leb-suc-suc}
use lib.ListN.{length, take, drop, get_or, length-drop}
use lib.Seq.{get_or-drop}
use borrow.Author.Tests.{le-leb, lt-leb}
use Rattle.std.specs.Cmp.Lexicographic.{pointwise}
use Rattle.std.specs.List.{list_all}
use Rattle.records.specs.Bytes.{byte, number}
use Rattle.cases.specs.Packed.{number_at, part_at, held_at, pattern, follows, stands_in}

-- four bytes, least first
pub number_4 : (f : List ℕ) (at : ℕ) → number f at 4 ≡ byte f at + 256 * (byte f (at + 1) + 256 * (byte f (at + 2) + 256 * byte f (at + 3)))
unfolding number
number_4 f at = simp (add_assoc, add-zero)

-- what stands from a place on holds the number at it, or too few bytes
pub number_here : (packed rest : List ℕ) (at n : ℕ) → rest ≡ drop at packed → 4 ≤ length rest
    → n ≡ get_or rest 0 0 + get_or rest 1 0 * 256 + get_or rest 2 0 * 65536 + get_or rest 3 0 * 16777216 → n ≡ number_at packed at
unfolding number_at
number_here packed rest at n e l h =
    let z : length rest ≡ length packed - at = ap length e ∙ length-drop at packed in
    let b : (i : ℕ) → get_or rest i 0 ≡ byte packed (at + i) = λ i. ap (λ (r : List ℕ). get_or r i 0) e ∙ get_or-drop at packed i 0 in
    rw (le-leb (at + 4) (length packed) (omega arith), number_4) (h ∙ omega (arith, b 0, b 1, b 2, b 3, ap (byte packed) (add-zero at)))

pub no_number : (packed rest : List ℕ) (at : ℕ) → rest ≡ drop at packed → length rest < 4 → 0 ≡ number_at packed at
unfolding number_at
no_number packed rest at e l =
    let z : length rest ≡ length packed - at = ap length e ∙ length-drop at packed in
    rw (lt-leb (at + 4) (length packed) (omega arith)) refl

-- the part at its front, or none where too little is left
pub part_here : (packed rest : List ℕ) (start size : ℕ) → rest ≡ drop start packed → size ≤ length rest → take size rest ≡ part_at packed start size
unfolding part_at
part_here packed rest start size e l =
    let z : length rest ≡ length packed - start = ap length e ∙ length-drop start packed in
    elim (dec_le (start + size) (length packed)) [
      | yes h ↦ rw (le-leb (start + size) (length packed) h) (ap (take size) e)
      | no h ↦ rw (lt-leb (start + size) (length packed) (omega arith)) (let none : size ≡ 0 = omega arith in ap (λ (n : ℕ). take n rest) none)
    ]

pub no_part : (packed rest : List ℕ) (start size : ℕ) → rest ≡ drop start packed → length rest < size → [] ≡ part_at packed start size
unfolding part_at
no_part packed rest start size e l =
    let z : length rest ≡ length packed - start = ap length e ∙ length-drop start packed in
    rw (lt-leb (start + size) (length packed) (omega arith)) refl

-- where nothing is left of the packed bytes, no part is held
pub none_held : (packed : List ℕ) (at : ℕ) → length packed ≤ at → [] ≡ held_at packed at
unfolding held_at number_at part_at
none_held packed at h = rw (lt-leb (at + 4) (length packed) (omega arith), lt-leb (at + 4 + 4) (length packed) (omega arith), le-leb 0 (length packed) (omega arith))

-- ---- the front, and then the pattern

-- where the front ends, all that is left has the pattern
after_front : (bytes : List ℕ) → follows [] bytes ≡ list_all (λ (byte : ℕ). eqb byte pattern) bytes
unfolding follows
after_front [] = refl
after_front (byte ∷ rest) = ap (λ (t : Bool). eqb byte pattern && t) (after_front rest)

-- a test that comes first on both sides
first_test : (e l f p r : Bool) → (l && f) ≡ (p && r) → (l && (e && f)) ≡ ((e && p) && r)
first_test true l f p r h = h
first_test false true f p r h = refl
first_test false false f p r h = refl

-- bytes stand as they should where they begin with the front, and the rest has the pattern
stands_by_parts : (front bytes : List ℕ)
    → stands_in front bytes ≡ (pointwise eqb (take (length front) bytes) front && list_all (λ (byte : ℕ). eqb byte pattern) (drop (length front) bytes))
unfolding stands_in follows
stands_by_parts [] bytes = rw (le-leb 0 (length bytes) (omega arith)) (after_front bytes)
stands_by_parts (x ∷ front) [] = rw (lt-leb (suc (length front)) 0 (omega arith)) refl
stands_by_parts (x ∷ front) (y ∷ bytes) = rw leb-suc-suc (first_test (eqb y x) _ _ _ _ (stands_by_parts front bytes))

pub begins : (front bytes : List ℕ) (right : Bool) → pointwise eqb (take (length front) bytes) front ≡ true
    → right ≡ list_all (λ (byte : ℕ). eqb byte pattern) (drop (length front) bytes) → right ≡ stands_in front bytes
begins front bytes right b r = r ∙ sym (stands_by_parts front bytes ∙ ap (λ (t : Bool). t && list_all (λ (byte : ℕ). eqb byte pattern) (drop (length front) bytes)) b)

pub begins_otherwise : (front bytes : List ℕ) → pointwise eqb (take (length front) bytes) front ≡ false → false ≡ stands_in front bytes
begins_otherwise front bytes b = sym (stands_by_parts front bytes ∙ ap (λ (t : Bool). t && list_all (λ (byte : ℕ). eqb byte pattern) (drop (length front) bytes)) b)
