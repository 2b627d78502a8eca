-- Pieces put in a line one after the other make one piece; and the line that is made.
-- Assumes nothing.
use mathlib.Core.List.{List, [], ◌++◌, append_assoc}
use mathlib.Core.Path.{◌≡◌, refl, ◌∙◌}
use Prim.Native.Nat.{ℕ, ◌≤◌}
use lib.Dec.{ltb}
use lib.ListN.{length}
use borrow.Author.Tests.{ltb-true, ltb-false}
use mathlib.Core.Bool.{Bool, true, false}
use Rattle.lines.specs.Text.{decimal}
use Rattle.lines.specs.declared.pieces.Line.{Line}
use Rattle.lines.specs.Pieces.{Puts, Made}
use Rattle.lines.proofs.Putting.{Whole, then_put, put_as, nothing_put, line_put, line_kept}

-- the same text, written otherwise
pub puts_as : {text same : List ℕ} {l m : Line} → text ≡ same → Puts text l m → Puts same l m
puts_as e p = record { same = p.same; put = put_as _ _ _ _ e p.put }

-- nothing is put anywhere
pub nothing_puts : (l : Line) → Puts [] l l
nothing_puts l = record { same = refl; put = nothing_put l.out.now l.at }

-- one piece after the other
pub then_puts : {first second : List ℕ} {l m n : Line} → Puts first l m → Puts second m n → Puts (first ++ second) l n
then_puts p q = record { same = q.same ∙ p.same; put = then_put _ _ _ _ _ _ _ _ p.put q.put }

-- a third after some words and a number
pub after_number : (words : List ℕ) (number : ℕ) {third : List ℕ} {l m n : Line} → Puts (words ++ decimal number) l m → Puts third m n
    → Puts (words ++ (decimal number ++ third)) l n
after_number words number p q = puts_as (append_assoc words (decimal number) _) (then_puts p q)

-- ---- pieces that are still to come

-- whatever puts the rest from m on puts the whole from l on
pub record Completes (rest whole : List ℕ) (l m : Line) : Type 0 where
  pub puts : (n : Line) → Puts rest m n → Puts whole l n

-- after a first piece
pub once_put : (first rest : List ℕ) {l m : Line} → Puts first l m → Completes rest (first ++ rest) l m
once_put first rest p = record { puts = λ n q. then_puts p q }

-- and after one more
pub one_more : (first rest : List ℕ) {whole : List ℕ} {l m n : Line} → Completes (first ++ rest) whole l m → Puts first m n → Completes rest whole l n
one_more first rest r p = record { puts = λ n q. r.puts n (then_puts p q) }

-- ---- a line that is made

-- where its pieces put a text that the room is enough for, it is the whole line, or nothing in too little room
pub made_line : {Goes : Line → Line → Type 0} {room : ℕ} {text out : List ℕ} {count : ℕ} {last : List ℕ} → Made Goes room out count last
    → ((l m : Line) → Goes l m → Puts text l m) → length text ≤ room → Whole room text out count last
made_line {Goes} {room} {text} {out} {count} {last} made puts short = go (ltb (length out) room) refl
  where
    go : (t : Bool) → ltb (length out) room ≡ t → Whole room text out count last
    go true e =
        let h = ltb-true (length out) room e in
        let k = made.kept h in
        rw (k.0, k.1) (line_kept room text out h)
    go false e =
        let h = ltb-false (length out) room e in
        let ran = made.ran h in
        let p = puts ran.from ran.to ran.goes in
        rw (ran.ends, ran.leaves) (line_put room text out ran.to.at ran.to.out.now h short (rw (ran.front, ran.bytes) at p.put))
