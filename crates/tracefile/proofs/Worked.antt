-- The file of D is good and says what D says; its three damaged forms are refused with their numbers and places.
-- Assumes nothing.
use mathlib.Core.List.{[], ◌∷◌, ◌++◌}
use mathlib.Core.Path.{◌≡◌, refl}
use lib.ListN.{take, set}
use Rattle.records.specs.Bytes.{number}
use Rattle.records.specs.Records.{observations}
use Rattle.model.specs.declared.Observation.TheVariants.{Write, Stabilize}
use Rattle.tracefile.specs.Refusals.{accepted, refused}
use Rattle.tracefile.specs.File.{check, asked}
use Rattle.tracefile.specs.Example.{file_of_d, records_of_d}

pub good : check file_of_d ≡ accepted
unfolding check number
good = refl

pub body : asked file_of_d 1 ≡ records_of_d
unfolding asked number
body = refl

pub evening : observations records_of_d ≡ Write 1 1 0 ∷ Stabilize 1 0 ∷ []
unfolding observations number
evening = refl

-- with 31 bytes, with 33, and with seen = 2 in the second record
pub one_byte_short : check (take 31 file_of_d) ≡ refused 6 4
unfolding check number
one_byte_short = refl

pub one_byte_more : check (file_of_d ++ (0 ∷ [])) ≡ refused 6 32
unfolding check number
one_byte_more = refl

pub seen_too_large : check (set file_of_d 23 2) ≡ refused 7 20
unfolding check number
seen_too_large = refl
