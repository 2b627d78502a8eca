-- Where a text is put in the bytes that are lent for it.
use Rattle.std.specs.Prelude.{ℕ, ◌+◌, ◌*◌, ◌/◌, ◌≤◌, cond, List, ◌++◌, ◌≡◌, ltb, length, take, drop}

-- ---- a whole line, at the front, where the bytes lent are not under the room asked for it; otherwise nothing

-- the room for the longest line of an answer or a refusal, and for a line of events: 3 bytes an event, and 1
abbrev pub line_room : ℕ
line_room = 80

abbrev pub events_room : List ℕ → ℕ
events_room events = 3 * (length events / 2) + 1

-- how many bytes are written
unfoldable pub written : ℕ → List ℕ → List ℕ → ℕ
written room text out = cond (ltb (length out) room) 0 (length text)

-- the bytes afterwards: the text, and then the later bytes as they were
unfoldable pub after : ℕ → List ℕ → List ℕ → List ℕ
after room text out = cond (ltb (length out) room) out (text ++ drop (length text) out)

-- ---- a text that is put in the bytes from a place on

pub record Stands (text out : List ℕ) (at next : ℕ) (last : List ℕ) : Type 0 where
  pub ends : next ≡ at + length text
  pub bytes : last ≡ take at out ++ (text ++ drop (at + length text) out)

-- it stands there, if it fits
unfoldable pub Put : List ℕ → List ℕ → ℕ → ℕ → List ℕ → Type 0
Put text out at next last = at + length text ≤ length out → Stands text out at next last
