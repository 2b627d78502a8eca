-- The lines that document 01 shows, by computation.
-- Assumes nothing.
use mathlib.Core.List.{[], ◌∷◌}
use mathlib.Core.Path.{◌≡◌, refl}
use Rattle.verdict.specs.Judged.{explained_by, unexplained_in, undecided_at, refused}
use Rattle.lines.specs.Words.{words}
use Rattle.lines.specs.Text.{answer_text, events_text, refusal_text}
use Rattle.lines.specs.Notation.{record_text}

pub explained_line : answer_text 1 (explained_by 4 3) ≡ words "trace 1 explained points 4 events 3\n"
unfolding answer_text
explained_line = refl

pub unexplained_line : answer_text 1 (unexplained_in 13) ≡ words "trace 1 unexplained points 13\n"
unfolding answer_text
unexplained_line = refl

pub undecided_line : answer_text 1 (undecided_at 1000000) ≡ words "trace 1 undecided points 1000000\n"
unfolding answer_text
undecided_line = refl

pub stopped_line : answer_text 1 (refused 10 0) ≡ words "trace 1 refused 10 at 0\n"
unfolding answer_text
stopped_line = refl

pub refused_line : refusal_text 7 20 ≡ words "refused 7 at 20\n"
unfolding refusal_text
refused_line = refl

-- the events of D, and of I
pub d_events : events_text (2 ∷ 1 ∷ 5 ∷ 1 ∷ 3 ∷ 0 ∷ []) ≡ words "W1 U1 S\n"
unfolding events_text
d_events = refl

pub i_events : events_text (2 ∷ 1 ∷ 2 ∷ 2 ∷ 5 ∷ 1 ∷ 5 ∷ 2 ∷ 6 ∷ 2 ∷ 3 ∷ 0 ∷ []) ≡ words "W1 W2 U1 U2 D2 S\n"
unfolding events_text
i_events = refl

pub no_events : events_text [] ≡ words "\n"
unfolding events_text
no_events = refl

-- a failed STABILIZE, a kind that is not in the table, and a byte without its second
pub other_events : events_text (1 ∷ 8 ∷ 4 ∷ 0 ∷ 9 ∷ 12 ∷ 7 ∷ []) ≡ words "R8 SF ?2\n"
unfolding events_text
other_events = refl

-- records: a read, a write, and a STABILIZE that failed
pub read_line : record_text (record { set = 0; kind = 1; tablet = 2; new = 0; seen = 1 }) ≡ words "R2 1\n"
unfolding record_text
read_line = refl

pub write_line : record_text (record { set = 0; kind = 2; tablet = 1; new = 2; seen = 1 }) ≡ words "W1 2<1\n"
unfolding record_text
write_line = refl

pub failed_line : record_text (record { set = 0; kind = 4; tablet = 0; new = 0; seen = 0 }) ≡ words "SF\n"
unfolding record_text
failed_line = refl
