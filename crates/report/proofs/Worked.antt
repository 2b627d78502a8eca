-- What is printed for the file of D, for its damaged forms and for the file of E, by computation.
-- Assumes nothing.
use mathlib.Core.List.{[], ◌∷◌, ◌++◌}
use mathlib.Core.Path.{◌≡◌, refl}
use lib.ListN.{take, set}
use Rattle.marks.specs.Sets.{has, add, remove, only, full}
use Rattle.model.specs.Model.{outcome}
use Rattle.records.specs.Bytes.{number}
use Rattle.records.specs.Records.{observations}
use Rattle.tracefile.specs.File.{check, asked}
use Rattle.tracefile.specs.Example.{file_of_d}
use Rattle.verdict.specs.Judged.{said}
use Rattle.verdict.specs.Example.{file_of_e}
use Rattle.lines.specs.Words.{words}
use Rattle.lines.specs.Text.{answer_text, events_text, refusal_text}
use Rattle.report.specs.Printed.{printed}

pub d_printed : printed file_of_d ≡ words "trace 1 explained points 4 events 3\nW1 U1 S\n"
unfolding printed check asked observations number outcome has add remove only full said answer_text events_text
d_printed = refl

-- with 31 bytes, with 33, and with seen = 2 in the second record
pub d_short : printed (take 31 file_of_d) ≡ words "refused 6 at 4\n"
unfolding printed check number refusal_text
d_short = refl

pub d_long : printed (file_of_d ++ (0 ∷ [])) ≡ words "refused 6 at 32\n"
unfolding printed check number refusal_text
d_long = refl

pub d_seen : printed (set file_of_d 23 2) ≡ words "refused 7 at 20\n"
unfolding printed check number refusal_text
d_seen = refl

pub e_printed : printed file_of_e ≡ words "trace 1 unexplained points 1\n"
unfolding printed check asked observations number outcome has add remove only full said answer_text
e_printed = refl
