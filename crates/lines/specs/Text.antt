-- Document 01, 'Evenings worked by hand', what the program prints: the lines that people read, in bytes.
use Rattle.std.specs.Prelude.{ℕ, zero, suc, ◌+◌, ◌/◌, ◌%◌, cond, List, [], ◌∷◌, ◌++◌, ltb, eqb}
use Rattle.tracefile.specs.Refusals as R
use Rattle.verdict.specs.Judged.{Said, explained_by, unexplained_in, undecided_at, refused}
use Rattle.lines.specs.Words.{words}

-- ---- words and numbers

-- a line ends with a line feed
abbrev pub line_end : List ℕ
line_end = 10 ∷ []

-- the last decimal digit of a number, in a byte
abbrev pub digit : ℕ → ℕ
digit n = 48 + n % 10

-- a number's decimal digits, without leading zeros, of which at most more + 1 are written
unfoldable pub digits : ℕ → ℕ → List ℕ
digits zero n = digit n ∷ []
digits (suc more) n = cond (ltb n 10) (digit n ∷ []) (digits more (n / 10) ++ (digit n ∷ []))

-- a number of 32 bits has at most 10
unfoldable pub decimal : ℕ → List ℕ
unfolding digits
decimal n = digits 9 n

-- ---- a refusal, by its number and its place

unfoldable pub refusal_text : ℕ → ℕ → List ℕ
unfolding decimal
refusal_text number place = words "refused " ++ (decimal number ++ (words " at " ++ (decimal place ++ line_end)))

-- the line for a refused file; an accepted one has none
unfoldable pub refused_text : R.Answer → List ℕ
unfolding refusal_text
refused_text R.accepted = []
refused_text (R.refused number place) = refusal_text number place

-- ---- what is said of a trace: number, result and point count, and for an explained one the event count

unfoldable pub said_text : Said → List ℕ
unfolding decimal refusal_text
said_text (explained_by points events) =
    words "explained points " ++ (decimal points ++ (words " events " ++ (decimal events ++ line_end)))
said_text (unexplained_in points) = words "unexplained points " ++ (decimal points ++ line_end)
said_text (undecided_at points) = words "undecided points " ++ (decimal points ++ line_end)
said_text (refused number place) = refusal_text number place

unfoldable pub answer_text : ℕ → Said → List ℕ
unfolding decimal said_text
answer_text trace said = words "trace " ++ (decimal trace ++ (words " " ++ said_text said))

-- the line that opens the listing of a trace
unfoldable pub heading_text : ℕ → List ℕ
unfolding decimal
heading_text trace = words "trace " ++ (decimal trace ++ line_end)

-- ---- events

-- the letter of an event at a tablet: READ, WRITE, UP, DOWN; a kind that is not in the table gets a question mark
unfoldable pub event_letter : ℕ → List ℕ
event_letter kind =
    cond (eqb kind 1) (words "R")
    (cond (eqb kind 2) (words "W")
    (cond (eqb kind 5) (words "U")
    (cond (eqb kind 6) (words "D") (words "?"))))

-- an event of two bytes, kind and tablet: S, SF, or its letter with the tablet's digit; of a tablet above 9, the last one
unfoldable pub event_text : ℕ → ℕ → List ℕ
unfolding event_letter
event_text kind tablet =
    cond (eqb kind 3) (words "S") (cond (eqb kind 4) (words "SF") (event_letter kind ++ (digit tablet ∷ [])))

-- the events that follow another one, each after a space; then the line ends. A last byte without its second is no event.
unfoldable pub later_events : List ℕ → List ℕ
unfolding event_text
later_events [] = line_end
later_events (kind ∷ []) = line_end
later_events (kind ∷ tablet ∷ rest) = words " " ++ (event_text kind tablet ++ later_events rest)

-- the line of events, parted by one space; with no events it is empty
unfoldable pub events_text : List ℕ → List ℕ
unfolding event_text later_events
events_text [] = line_end
events_text (kind ∷ []) = line_end
events_text (kind ∷ tablet ∷ rest) = event_text kind tablet ++ later_events rest
