-- What is said of the files of D and E, by computation, and each demand at one of them: its premises can be met.
-- Assumes nothing.
use Prim.Native.Nat.{ℕ, ◌<◌}
use native.Mathlib.Omega.{arith}
use mathlib.Core.List.{List, [], ◌∷◌, ◌++◌}
use mathlib.Core.Path.{◌≡◌, refl, sym, subst}
use lib.ListN.{length}
use Rattle.marks.specs.Sets.{has, add, remove, only, full}
use Rattle.model.specs.Walk.{found, needed, Unstopped}
use Rattle.model.specs.Model.{Explanation, depth, walk, outcome}
use Rattle.model.specs.declared.Observation.{Observation}
use Rattle.model.specs.declared.Observation.TheVariants.{Write, Stabilize}
use Rattle.model.specs.declared.Event.{Event}
use Rattle.model.specs.declared.Event.TheVariants.{Observed, Up}
use Rattle.records.specs.Bytes.{number}
use Rattle.records.specs.Records.{observations}
use Rattle.tracefile.specs.File.{tablets_in, check_trace, asked}
use Rattle.tracefile.specs.Example.{file_of_d}
use Rattle.walk.specs.Steps.{laid_in, outcome_in}
use Rattle.verdict.specs.Judged.{Said, explained_by, unexplained_in, undecided_at, refused, evening, judged, room_judged, Allowed}
use Rattle.verdict.specs.Example.{file_of_e}
use Rattle.verdict.proofs.Demands.{IsUndecided, Ready, room_as_it_came, explained_only_with, unexplained_only_if, more_if_undecided, repeated, none_later}

-- D: explained by four points and three events, which are laid in the room and leave its last byte
pub d_explained : judged file_of_d 1 4 7 ≡ explained_by 4 3
unfolding judged check_trace asked observations number outcome has add remove only full
d_explained = refl

pub d_laid : room_judged file_of_d 1 4 (9 ∷ 9 ∷ 9 ∷ 9 ∷ 9 ∷ 9 ∷ 9 ∷ []) ≡ 2 ∷ 1 ∷ 5 ∷ 1 ∷ 3 ∷ 0 ∷ 9 ∷ []
unfolding room_judged check_trace asked observations number outcome outcome_in has add remove only full
d_laid = refl

-- three points are too few, five bytes are too little room, and there is no second trace
pub d_undecided : judged file_of_d 1 3 6 ≡ undecided_at 3
unfolding judged check_trace asked observations number outcome has add remove only full
d_undecided = refl

pub d_no_room : judged file_of_d 1 4 5 ≡ refused 9 0
unfolding judged check_trace asked observations number outcome has add remove only full
d_no_room = refl

pub d_no_trace : judged file_of_d 2 4 6 ≡ refused 8 0
unfolding judged check_trace asked observations number outcome has add remove only full
d_no_trace = refl

-- E: unexplained by one point
pub e_unexplained : judged file_of_e 1 1 2 ≡ unexplained_in 1
unfolding judged check_trace asked observations number outcome has add remove only full
e_unexplained = refl

-- ---- what is allowed there

abbrev room_of_d : List ℕ
room_of_d = 9 ∷ 9 ∷ 9 ∷ 9 ∷ 9 ∷ 9 ∷ 9 ∷ []

d_four : Allowed file_of_d 1 4 room_of_d (explained_by 4 3) (2 ∷ 1 ∷ 5 ∷ 1 ∷ 3 ∷ 0 ∷ 9 ∷ [])
d_four = record { says = sym d_explained; leaves = sym d_laid }

d_three : Allowed file_of_d 1 3 room_of_d (undecided_at 3) room_of_d
unfolding judged room_judged check_trace asked observations number outcome outcome_in has add remove only full
d_three = record { says = refl; leaves = refl }

e_one : Allowed file_of_e 1 1 room_of_d (unexplained_in 1) room_of_d
unfolding judged room_judged check_trace asked observations number outcome outcome_in has add remove only full
e_one = record { says = refl; leaves = refl }

d_ready : Ready file_of_d 1 room_of_d
unfolding check_trace asked observations number depth
d_ready = record { good = refl; enough = omega arith }

-- the walk of D needs four points, and meets no depth stop
d_needs : walk (tablets_in file_of_d) (evening file_of_d 1) ≡ found 4 (Observed (Write 1 1 0) ∷ Up 1 ∷ Observed (Stabilize 1 0) ∷ [])
unfolding walk asked observations number has add remove only full
d_needs = refl

d_unstopped : Unstopped (walk (tablets_in file_of_d) (evening file_of_d 1))
d_unstopped = subst Unstopped (sym d_needs) tt

-- ---- the demands there

-- 1: an undecided answer leaves the room
pub d_room_kept : (after : List ℕ) → Allowed file_of_d 1 3 room_of_d (undecided_at 3) after → after ≡ room_of_d
d_room_kept after p = room_as_it_came file_of_d 1 3 room_of_d (undecided_at 3) after p (λ k m h. subst IsUndecided h tt)

-- 2: an explanation of D, and none of E
pub d_has_one : (es : List Event) × (Explanation 1 (evening file_of_d 1) es × ((length es ≡ 3) × (2 ∷ 1 ∷ 5 ∷ 1 ∷ 3 ∷ 0 ∷ 9 ∷ [] ≡ laid_in es room_of_d)))
d_has_one = explained_only_with file_of_d 1 4 room_of_d 4 3 (explained_by 4 3) _ d_four refl

pub e_has_none : (es : List Event) → Explanation 1 (evening file_of_e 1) es → ⊥
e_has_none = unexplained_only_if file_of_e 1 1 room_of_d 1 (unexplained_in 1) room_of_d e_one refl

-- 3: three points are fewer than D needs; a larger budget says what four points said; E stays unexplained
pub d_needs_more : 3 < needed (walk 1 (evening file_of_d 1))
d_needs_more = more_if_undecided file_of_d 1 3 3 room_of_d (undecided_at 3) room_of_d d_ready d_unstopped d_three refl

pub d_repeats : (s : Said) (after : List ℕ) → Allowed file_of_d 1 1000000 room_of_d s after
    → (s ≡ explained_by 4 3) × (after ≡ 2 ∷ 1 ∷ 5 ∷ 1 ∷ 3 ∷ 0 ∷ 9 ∷ [])
unfolding outcome asked observations number has add remove only full
d_repeats s after p = repeated file_of_d 1 4 1000000 room_of_d (explained_by 4 3) s _ after d_ready (omega arith) tt d_four p

pub e_none_later : (more : List Observation) (es : List Event) → Explanation 1 (evening file_of_e 1 ++ more) es → ⊥
e_none_later = none_later file_of_e 1 1 room_of_d 1 (unexplained_in 1) room_of_d e_one refl
