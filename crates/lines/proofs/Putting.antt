-- Texts put one after the other make one text.
-- Assumes nothing.
use mathlib.Core.Bool.{Bool, true, false, cond}
use mathlib.Core.List.{List, [], ◌∷◌, ◌++◌, append_assoc}
use mathlib.Core.Path.{◌≡◌, refl, sym, ap, ap₂, ◌∙◌, subst}
use Prim.Native.Nat.{ℕ, ◌+◌, ◌-◌, ◌≤◌, ◌<◌}
use native.Mathlib.Nat.{zero-add, add-zero}
use native.Mathlib.Numerals.{add-one}
use native.Mathlib.Omega.{arith}
use lib.Dec.{ltb}
use borrow.Author.Tests.{lt-ltb, le-ltb}
use lib.ListN.{length, take, drop, set, take-append-drop, length-append, length-drop}
use lib.Seq.{length-take-le, take_at, drop-drop, set_split, drop-append-add}
use Rattle.lines.specs.Put.{Stands, Put, written, after}

-- one that does not fit is not asked for
pub left_out : (text out : List ℕ) (at next : ℕ) (last : List ℕ) → length out < at + length text → Put text out at next last
unfolding Put
left_out text out at next last h = λ fits. absurd (omega arith)

-- one that stands is put
pub stood : (text out : List ℕ) (at next : ℕ) (last : List ℕ) → Stands text out at next last → Put text out at next last
unfolding Put
stood text out at next last s = λ fits. s

-- and one that is put and fits stands
pub standing : (text out : List ℕ) (at next : ℕ) (last : List ℕ) → at + length text ≤ length out → Put text out at next last → Stands text out at next last
unfolding Put
standing text out at next last fits p = p fits

-- nothing is put anywhere
pub nothing_put : (out : List ℕ) (at : ℕ) → Put [] out at at out
unfolding Put
nothing_put out at = λ fits. record { ends = sym (add-zero at); bytes = sym (ap (λ (n : ℕ). take at out ++ drop n out) (add-zero at) ∙ take-append-drop at out) }

-- a byte is stored
pub byte_put : (byte at : ℕ) (out : List ℕ) → at < length out → Put (byte ∷ []) out at (at + 1) (set out at byte)
unfolding Put
byte_put byte at out h = λ fits. record { ends = refl; bytes = rw add-one (set_split out at byte h) }

-- words are copied into the part that is as long as they are
pub words_put : (words out copied : List ℕ) (at : ℕ) → at + length words ≤ length out → copied ≡ words
    → Put words out at (at + length words) (take at out ++ (copied ++ drop (at + length words - at) (drop at out)))
unfolding Put
words_put words out copied at h whole =
    let e : at + length words - at ≡ length words = omega arith in
    λ fits. record {
      ends = refl;
      bytes = rw (whole, e, drop-drop);
    }

-- ---- one after the other

module _ (first out : List ℕ) (at middle : ℕ) (between : List ℕ) (fits : at + length first ≤ length out)
    (stands : Stands first out at middle between) where
  abbrev front : List ℕ
  front = take at out ++ first

  front_ends : length front ≡ middle
  front_ends = length-append (take at out) first ∙ ap (λ (n : ℕ). n + length first) (length-take-le at out (omega arith)) ∙ sym stands.ends

  abbrev rest : List ℕ
  rest = drop (at + length first) out

  split : between ≡ front ++ rest
  split = stands.bytes ∙ sym (append_assoc (take at out) first rest)

  -- the bytes are as many as they were
  pub as_long : length between ≡ length out
  as_long = ap length split ∙ length-append front rest ∙ omega (arith, front_ends, stands.ends, length-drop (at + length first) out)

  -- the text so far stands before the place that was reached
  before : take middle between ≡ front
  before = ap (take middle) split ∙ take_at front rest middle front_ends

  -- and after it nothing has changed
  behind : (n : ℕ) → drop (middle + n) between ≡ drop (at + length first + n) out
  behind n =
      ap (drop (middle + n)) split
      ∙ ap (λ (m : ℕ). drop (m + n) (front ++ rest)) (sym front_ends)
      ∙ drop-append-add front rest n
      ∙ drop-drop n (at + length first) out

-- the place and the bytes that the first text leaves are those that the second finds
pub then_put : (first second out between : List ℕ) (at middle next : ℕ) (last : List ℕ)
    → Put first out at middle between → Put second between middle next last → Put (first ++ second) out at next last
unfolding Put
then_put first second out between at middle next last p q = λ fits.
    let l = length-append first second in
    let h : at + length first ≤ length out = omega arith in
    let s = p h in
    let long = as_long first out at middle between h s in
    let g : middle + length second ≤ length between = omega (arith, s.ends) in
    let t = q g in
    let e : at + length first + length second ≡ at + length (first ++ second) = omega arith in
    record {
      ends = t.ends ∙ omega (arith, s.ends);
      bytes =
          t.bytes
          ∙ ap₂ ◌++◌ (before first out at middle between h s) (ap (λ (l : List ℕ). second ++ l) (behind first out at middle between h s (length second) ∙ ap (λ (n : ℕ). drop n out) e))
          ∙ append_assoc (take at out) first (second ++ drop (at + length (first ++ second)) out)
          ∙ ap (λ (l : List ℕ). take at out ++ l) (sym (append_assoc first second (drop (at + length (first ++ second)) out)));
    }

-- the same text, written otherwise
pub put_as : {text same : List ℕ} (out : List ℕ) (at next : ℕ) (last : List ℕ) → text ≡ same → Put text out at next last → Put same out at next last
put_as out at next last e p = subst (λ (t : List ℕ). Put t out at next last) e p

-- ---- a whole line

abbrev pub Whole : ℕ → List ℕ → List ℕ → ℕ → List ℕ → Type 0
Whole room text out count last = (count ≡ written room text out) × (last ≡ after room text out)

-- where there is room for the longest, the line stands at the front
pub line_put : (room : ℕ) (text out : List ℕ) (count : ℕ) (last : List ℕ) → room ≤ length out → length text ≤ room
    → Put text out 0 count last → Whole room text out count last
unfolding Put written after
line_put room text out count last enough short p =
    let s = p (omega arith) in
    rw (le-ltb (length out) room enough) (s.ends ∙ omega arith, s.bytes ∙ ap (λ (n : ℕ). text ++ drop n out) (zero-add (length text)))

-- otherwise nothing is written
pub line_kept : (room : ℕ) (text out : List ℕ) → length out < room → Whole room text out 0 out
unfolding written after
line_kept room text out h = rw (lt-ltb (length out) room h) (refl, refl)

-- what is written lies within the bytes
pub within : (room : ℕ) (text out : List ℕ) (count : ℕ) (last : List ℕ) → Whole room text out count last → count ≤ length last
unfolding written after
within room text out count last p = go (ltb (length out) room) p.0 p.1
  where
    go : (t : Bool) → count ≡ cond t 0 (length text) → last ≡ cond t out (text ++ drop (length text) out) → count ≤ length last
    go true e g = omega arith
    go false e g = let l = ap length g ∙ length-append text (drop (length text) out) in omega arith
