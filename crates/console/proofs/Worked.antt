-- The C call at the files of D and E, by computation.
-- Assumes nothing.
use Prim.Native.Nat.{ℕ}
use mathlib.Core.List.{List, [], ◌∷◌}
use mathlib.Core.Path.{refl}
use Rattle.marks.specs.Sets.{has, add, remove, only, full}
use Rattle.model.specs.Model.{outcome}
use Rattle.records.specs.Bytes.{number}
use Rattle.records.specs.Records.{observations}
use Rattle.tracefile.specs.File.{check_trace, asked}
use Rattle.tracefile.specs.Example.{file_of_d}
use Rattle.walk.specs.Steps.{outcome_in}
use Rattle.verdict.specs.Judged.{judged, room_judged}
use Rattle.verdict.specs.Example.{file_of_e}
use Rattle.console.specs.Called.{status, room_after, area_after, Allowed}

-- six bytes of room, an area of 12 bytes and one of 11
abbrev six : List ℕ
six = 9 ∷ 9 ∷ 9 ∷ 9 ∷ 9 ∷ 9 ∷ []

abbrev eleven : List ℕ
eleven = 7 ∷ 7 ∷ 7 ∷ 7 ∷ 7 ∷ 7 ∷ 7 ∷ 7 ∷ 7 ∷ 7 ∷ 7 ∷ []

abbrev twelve : List ℕ
twelve = 7 ∷ eleven

-- D: four points and three events, W1 U1 S
pub d_explained : Allowed file_of_d 1 4 six twelve 0 (2 ∷ 1 ∷ 5 ∷ 1 ∷ 3 ∷ 0 ∷ []) (4 ∷ 0 ∷ 0 ∷ 0 ∷ 3 ∷ 0 ∷ 0 ∷ 0 ∷ 0 ∷ 0 ∷ 0 ∷ 0 ∷ [])
unfolding status room_after area_after judged room_judged check_trace asked observations number outcome outcome_in has add remove only full
d_explained = record { says = refl; leaves = refl; tells = refl }

-- three points are too few
pub d_undecided : Allowed file_of_d 1 3 six twelve 2 six (3 ∷ 0 ∷ 0 ∷ 0 ∷ 0 ∷ 0 ∷ 0 ∷ 0 ∷ 0 ∷ 0 ∷ 0 ∷ 0 ∷ [])
unfolding status room_after area_after judged room_judged check_trace asked observations number outcome outcome_in has add remove only full
d_undecided = record { says = refl; leaves = refl; tells = refl }

-- an area of 11 bytes is refusal 9, whatever the file
pub d_wrong_area : Allowed file_of_d 1 4 six eleven 19 six eleven
unfolding status room_after area_after
d_wrong_area = record { says = refl; leaves = refl; tells = refl }

-- no file is refusal 1
pub none_refused : Allowed [] 1 4 [] twelve 11 [] (0 ∷ 0 ∷ 0 ∷ 0 ∷ 0 ∷ 0 ∷ 0 ∷ 0 ∷ 0 ∷ 0 ∷ 0 ∷ 0 ∷ [])
unfolding status room_after area_after judged room_judged check_trace
none_refused = record { says = refl; leaves = refl; tells = refl }

-- E: unexplained by one point
pub e_unexplained : Allowed file_of_e 1 1 six twelve 1 six (1 ∷ 0 ∷ 0 ∷ 0 ∷ 0 ∷ 0 ∷ 0 ∷ 0 ∷ 0 ∷ 0 ∷ 0 ∷ 0 ∷ [])
unfolding status room_after area_after judged room_judged check_trace asked observations number outcome outcome_in has add remove only full
e_unexplained = record { says = refl; leaves = refl; tells = refl }
