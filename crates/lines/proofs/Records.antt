-- The text of a record by its kind.
-- Assumes nothing.
use mathlib.Core.List.{List, ◌++◌}
use mathlib.Core.Path.{◌≡◌, refl, ap, ◌∙◌}
use Prim.Native.Nat.{ℕ}
use lib.Dec.{eqb}
use mathlib.Core.Bool.{Bool, true, false, cond}
use Rattle.std.specs.Prelude.{Result, Ok, Err}
use Rattle.model.specs.declared.Kind.{Kind}
use Rattle.model.specs.declared.Kind.TheVariants.{Read, Write, Stabilize, Failed, Up, Down}
use Rattle.model.specs.declared.UnknownKind.{UnknownKind}
use Rattle.model.specs.Kinds.{kind_of}
use Rattle.records.specs.declared.Record.{Record}
use Rattle.lines.specs.Words.{words}
use Rattle.lines.specs.Text.{decimal, line_end}
use Rattle.lines.specs.Notation.{found_text, record_text}
use Rattle.lines.specs.Pieces.{Puts}
use Rattle.lines.specs.declared.pieces.Line.{Line}
use Rattle.lines.proofs.Lines.{puts_as}

-- one of four texts by the kind
abbrev choice : (read write stabilize other : List ℕ) → Result Kind UnknownKind → List ℕ
choice read write stabilize other (Ok Read) = read
choice read write stabilize other (Ok Write) = write
choice read write stabilize other (Ok Stabilize) = stabilize
choice read write stabilize other (Ok Failed) = other
choice read write stabilize other (Ok Up) = other
choice read write stabilize other (Ok Down) = other
choice read write stabilize other (Err e) = other

module _ (read write stabilize other : List ℕ) where
  chosen : (kind : ℕ) → choice read write stabilize other (kind_of kind) ≡ cond (eqb kind 1) read (cond (eqb kind 2) write (cond (eqb kind 3) stabilize other))
  chosen kind = go (eqb kind 1) (eqb kind 2) (eqb kind 3) (eqb kind 4) (eqb kind 5) (eqb kind 6)
    where
      go : (a b c d e f : Bool)
          → choice read write stabilize other
          (cond a (Ok Read) (cond b (Ok Write) (cond c (Ok Stabilize) (cond d (Ok Failed) (cond e (Ok Up) (cond f (Ok Down) (Err (record { 0 = kind }))))))))
          ≡ cond a read (cond b write (cond c stabilize other))
      go true b c d e f = refl
      go false true c d e f = refl
      go false false true d e f = refl
      go false false false true e f = refl
      go false false false false true f = refl
      go false false false false false true = refl
      go false false false false false false = refl

abbrev text_by : Record → Result Kind UnknownKind → List ℕ
text_by r =
    choice
    (words "R" ++ (decimal r.tablet ++ (words " " ++ (decimal r.seen ++ line_end))))
    (words "W" ++ (decimal r.tablet ++ (words " " ++ (decimal r.new ++ (words "<" ++ (decimal r.seen ++ line_end))))))
    (found_text r.seen r.set)
    (words "SF" ++ line_end)

-- what is put for the kind that a record's byte stands for is the text of the record
pub record_by : {l m : Line} (given : Record) (k : Result Kind UnknownKind) → k ≡ kind_of given.kind → Puts (text_by given k) l m → Puts (record_text given) l m
unfolding record_text
record_by given k e p = puts_as (ap (text_by given) e ∙ chosen _ _ _ _ given.kind) p

-- and for no kind, or another one, it is that of a STABILIZE that failed
pub other_by : {l m : Line} (given : Record) (k : Result Kind UnknownKind) → k ≡ kind_of given.kind
    → (k ≡ Ok Read → ⊥) → (k ≡ Ok Write → ⊥) → (k ≡ Ok Stabilize → ⊥) → Puts (words "SF" ++ line_end) l m → Puts (record_text given) l m
other_by given (Ok Read) e read write stabilize p = absurd (read refl)
other_by given (Ok Write) e read write stabilize p = absurd (write refl)
other_by given (Ok Stabilize) e read write stabilize p = absurd (stabilize refl)
other_by given (Ok Failed) e read write stabilize p = record_by given (Ok Failed) e p
other_by given (Ok Up) e read write stabilize p = record_by given (Ok Up) e p
other_by given (Ok Down) e read write stabilize p = record_by given (Ok Down) e p
other_by given (Err none) e read write stabilize p = record_by given (Err none) e p
