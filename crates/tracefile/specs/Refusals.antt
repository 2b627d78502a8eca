-- Document 01, 'Results and refusals': the number and the place of each refusal of a file.
use Rattle.std.specs.Prelude.{ℕ, Result, Ok, Err}
use Rattle.tracefile.specs.declared.Refusal.{Refusal}
use Rattle.tracefile.specs.declared.Refusal.TheVariants.{Length, Edition, Tablets, Values, Bodies, Contents, BadRecord, Trace}

-- what a check comes to: accepted, or refused by a number at a place
pub data Answer : Type 0 where
  accepted : Answer
  refused : ℕ → ℕ → Answer

-- each refusal's number and place
abbrev pub refusal : Refusal → Answer
refusal Length = refused 1 0
refusal Edition = refused 2 0
refusal Tablets = refused 3 1
refusal Values = refused 4 2
refusal Bodies = refused 5 3
refusal (Contents at) = refused 6 at
refusal (BadRecord at) = refused 7 at
refusal Trace = refused 8 0

abbrev pub told : Result (Unit {0}) Refusal → Answer
told (Ok _) = accepted
told (Err r) = refusal r

-- one check after another: the first refusal counts
abbrev pub and_then : Answer → Answer → Answer
and_then accepted next = next
and_then (refused number place) next = refused number place
