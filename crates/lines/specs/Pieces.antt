-- What a piece does to a line, and what a line that is made of pieces gives: for the contracts of private functions alone.
use Rattle.std.specs.Prelude.{ℕ, List, ◌≡◌, ◌<◌, ◌≤◌, length}
use Rattle.lines.specs.declared.pieces.Line.{Line}
use Rattle.lines.specs.Put.{Put}

-- the line goes on from l to m: it holds the same bytes, and the text is put in them
pub record Puts (text : List ℕ) (l m : Line) : Type 0 where
  pub same : m.out.ghost_name ≡ l.out.ghost_name
  pub put : Put text l.out.now l.at m.at m.out.now

-- what puts the pieces may take the line from one state to another: it holds the same bytes
abbrev pub KeepsBytes : (Line → Line → Type 0) → Type 0
KeepsBytes Goes = (l m : Line) → Goes l m → m.out.ghost_name ≡ l.out.ghost_name

-- the pieces were put from the front of the bytes on, up to count
pub record Ran (Goes : Line → Line → Type 0) (out : List ℕ) (count : ℕ) (last : List ℕ) : Type 0 where
  pub from : Line
  pub to : Line
  pub goes : Goes from to
  pub front : from.at ≡ 0
  pub bytes : from.out.now ≡ out
  pub ends : count ≡ to.at
  pub leaves : last ≡ to.out.now

-- a line is made where the bytes are not under the room asked for, and otherwise nothing is written
pub record Made (Goes : Line → Line → Type 0) (room : ℕ) (out : List ℕ) (count : ℕ) (last : List ℕ) : Type 0 where
  pub ran : room ≤ length out → Ran Goes out count last
  pub kept : length out < room → (count ≡ 0) × (last ≡ out)
