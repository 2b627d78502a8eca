-- A line that is written is put at the front; and texts put with room for the longest add up.
-- Assumes nothing.
use mathlib.Core.List.{List, [], ◌++◌, append-nil}
use mathlib.Core.Path.{◌≡◌, sym, ap, ap₂, ◌∙◌, subst}
use Prim.Native.Nat.{ℕ, ◌+◌, ◌-◌, ◌≤◌}
use native.Mathlib.Nat.{zero-add}
use native.Mathlib.Omega.{arith}
use lib.ListN.{length, take, drop, length-append, length-drop}
use lib.Seq.{drop-drop, length-take-le}
use Rattle.std.proofs.lemmas.List.{take_all, drop_all}
use borrow.Author.Tests.{le-ltb}
use Rattle.lines.specs.Put.{written, after}
use Rattle.lines.proofs.Putting.{Whole, as_long, stood, standing, then_put}
use Rattle.report.specs.Rooms.{PutIn}

-- the same text, written otherwise
pub in_as : {text same : List ℕ} (room : ℕ) (out : List ℕ) (at next : ℕ) (last : List ℕ) → text ≡ same
    → PutIn room text out at next last → PutIn room same out at next last
in_as room out at next last e p = subst (λ (t : List ℕ). PutIn room t out at next last) e p

-- a line that needs no more than the room
pub line_in : (need room : ℕ) (text out : List ℕ) (count : ℕ) (last : List ℕ) → need ≤ room → length text ≤ need
    → Whole need text out count last → PutIn room text out 0 count last
unfolding PutIn written after
line_in need room text out count last n short p = λ fits.
    let no_less = le-ltb (length out) need (omega arith) in
    let counted : count ≡ length text = rw no_less at p.0 in
    let bytes : last ≡ text ++ drop (length text) out = rw no_less at p.1 in (
      record { ends = counted ∙ sym (zero-add (length text)); bytes = bytes ∙ ap (λ (n : ℕ). text ++ drop n out) (sym (zero-add (length text))) },
      omega arith,
    )

-- a text that is put at the front of the part from a place on
pub in_rest : (room : ℕ) (text out : List ℕ) (at count : ℕ) (copied : List ℕ) → at ≤ length out
    → PutIn room text (take (length out - at) (drop at out)) 0 count copied
    → PutIn room text out at (at + count) (take at out ++ (copied ++ drop (length out - at) (drop at out)))
unfolding PutIn
in_rest room text out at count copied h p = λ fits.
    let part : take (length out - at) (drop at out) ≡ drop at out = take_all (length out - at) (drop at out) (rw length-drop (omega arith)) in
    let none : drop (length out - at) (drop at out) ≡ [] = drop_all (length out - at) (drop at out) (rw length-drop (omega arith)) in
    let s = (rw part at p) (rw length-drop (omega arith)) in (
      record {
        ends = ap (λ (n : ℕ). at + n) (s.0.ends ∙ zero-add (length text));
        bytes =
            ap₂ (λ (l m : List ℕ). take at out ++ (l ++ m)) (s.0.bytes ∙ ap (λ (n : ℕ). text ++ drop n (drop at out)) (zero-add (length text))) none
            ∙ ap (λ (l : List ℕ). take at out ++ l) (append-nil (text ++ drop (length text) (drop at out)))
            ∙ ap (λ (l : List ℕ). take at out ++ (text ++ l)) (drop-drop (length text) at out);
      },
      s.1,
    )

-- and the bytes are as many as they were
pub rest_kept : (out copied : List ℕ) (at : ℕ) → at ≤ length out → length copied ≡ length (take (length out - at) (drop at out))
    → length (take at out ++ (copied ++ drop (length out - at) (drop at out))) ≡ at + length copied
rest_kept out copied at h kept =
    rw (length-append (take at out) (copied ++ drop (length out - at) (drop at out)), length-append copied (drop (length out - at) (drop at out)), length-take-le at out h)
    (omega (arith, length-drop (length out - at) (drop at out), length-drop at out))

-- ---- one after the other

pub then_in : (a b : ℕ) (first second out between : List ℕ) (at middle next : ℕ) (last : List ℕ)
    → PutIn a first out at middle between → PutIn b second between middle next last → PutIn (a + b) (first ++ second) out at next last
unfolding PutIn
then_in a b first second out between at middle next last p q = λ fits.
    let s = p (omega arith) in
    let h : at + length first ≤ length out = omega (arith, s.1) in
    let long = as_long first out at middle between h s.0 in
    let t = q (omega (arith, s.0.ends, s.1)) in
    let l = length-append first second in (
      standing (first ++ second) out at next last (omega (arith, s.1, t.1))
          (then_put first second out between at middle next last (stood first out at middle between s.0) (stood second between middle next last t.0)),
      omega (arith, s.1, t.1),
    )
