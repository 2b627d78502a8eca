-- The byte that stands for each kind of event, and the kind that a byte stands for.
use Rattle.std.specs.Prelude.{ℕ, List, ◌++◌, cond, eqb, Result, Ok, Err, codes}
use Rattle.std.specs.Fmt.{decimal}
use Rattle.model.specs.declared.Kind.{Kind}
use Rattle.model.specs.declared.Kind.TheVariants.{Read, Write, Stabilize, Failed, Up, Down}
use Rattle.model.specs.declared.UnknownKind.{UnknownKind}

abbrev pub code_of : Kind → ℕ
code_of Read = 1
code_of Write = 2
code_of Stabilize = 3
code_of Failed = 4
code_of Up = 5
code_of Down = 6

-- the kind with this byte, or the byte itself where no kind has it
abbrev pub kind_of : ℕ → Result Kind UnknownKind
kind_of b =
    cond (eqb b 1) (Ok Read)
    (cond (eqb b 2) (Ok Write)
    (cond (eqb b 3) (Ok Stabilize)
    (cond (eqb b 4) (Ok Failed)
    (cond (eqb b 5) (Ok Up)
    (cond (eqb b 6) (Ok Down)
    (Err (record { 0 = b })))))))

-- what is printed of a byte that no kind has
abbrev pub unknown_text : UnknownKind → List ℕ
unknown_text e = codes "no kind of event has byte " ++ decimal e.0
