-- What is never printed: refusal 9, and a failed STABILIZE among the events of an explanation.
-- Assumes nothing.
use mathlib.Core.Bool.{Bool, true, false, cond, ◌&&◌}
use mathlib.Core.List.{List, [], ◌∷◌}
use mathlib.Core.Path.{◌≡◌, sym, ◌∙◌}
use Prim.Native.Nat.{ℕ}
use native.Mathlib.Omega.{arith}
use lib.Dec.{leb, ltb}
use lib.ListN.{length}
use Rattle.model.specs.Walk.{Walked, found, endless, stopped, Outcome, explained, unexplained, undecided, too_deep, cut, possible}
use Rattle.model.specs.Model.{may, then, service, first_state, walk, outcome}
use Rattle.model.specs.declared.State.{State}
use Rattle.model.specs.declared.Event.{Event}
use Rattle.model.specs.declared.Event.TheVariants.{Observed, Up, Down}
use Rattle.model.specs.declared.Observation.TheVariants.{Read, Write, Stabilize, Failed}
use Rattle.model.proofs.Theorems.{found_end_explains}
use Rattle.tracefile.specs.Refusals as R
use Rattle.tracefile.specs.File.{tablets_in, check_trace}
use Rattle.verdict.specs.Judged.{refused, evening, said, judged}
use Rattle.verdict.proofs.Calls.{depth_small}
use Rattle.verdict.proofs.Demands.{as_walked}
use Rattle.report.specs.Printed.{budget}
use Rattle.report.specs.Rooms.{room_size}

-- ---- refusal 9

no_nine : (o : Outcome Event) (place : ℕ) → said o ≡ refused 9 place → ⊥
unfolding said
no_nine (explained k es) place e = let z : ◌≡◌ {A = ℕ} 0 1 = cc in omega arith
no_nine (unexplained k) place e = let z : ◌≡◌ {A = ℕ} 0 1 = cc in omega arith
no_nine (undecided b) place e = let z : ◌≡◌ {A = ℕ} 0 1 = cc in omega arith
no_nine too_deep place e = let z : ◌≡◌ {A = ℕ} 10 9 = cc in omega arith

-- the program's room is enough for every trace of a good file
pub enough_room : (f : List ℕ) (t : ℕ) (room : List ℕ) (place : ℕ) → check_trace f t ≡ R.accepted → room_size ≡ length room
    → judged f t budget (length room) ≡ refused 9 place → ⊥
enough_room f t room place good size e =
    no_nine (outcome (tablets_in f) (evening f t) budget) place
    (sym (as_walked f t budget room (record { good = good; enough = omega (arith, depth_small f t good) })) ∙ e)

-- ---- a failed STABILIZE

-- no event is one
abbrev pub Unfailed : List Event → Type 0
Unfailed [] = Unit {0}
Unfailed (Observed (Read t x) ∷ es) = Unfailed es
Unfailed (Observed (Write t y x) ∷ es) = Unfailed es
Unfailed (Observed (Stabilize x c) ∷ es) = Unfailed es
Unfailed (Observed Failed ∷ es) = ⊥
Unfailed (Up t ∷ es) = Unfailed es
Unfailed (Down t ∷ es) = Unfailed es

not_both : false ≡ true → ⊥
not_both e = let z : ◌≡◌ {A = ℕ} 0 1 = cc in omega arith

later : (a b : Bool) → (a && b) ≡ true → b ≡ true
later true b h = h
later false b h = absurd (not_both h)

possible_unfailed : (n : ℕ) (s : State) (es : List Event) → possible (service n) s es ≡ true → Unfailed es
unfolding possible service
possible_unfailed n s [] h = tt
possible_unfailed n s (Observed (Read t x) ∷ es) h = possible_unfailed n (then s (Observed (Read t x))) es (later (may n s (Observed (Read t x))) _ h)
possible_unfailed n s (Observed (Write t y x) ∷ es) h = possible_unfailed n (then s (Observed (Write t y x))) es (later (may n s (Observed (Write t y x))) _ h)
possible_unfailed n s (Observed (Stabilize x c) ∷ es) h = possible_unfailed n (then s (Observed (Stabilize x c))) es (later (may n s (Observed (Stabilize x c))) _ h)
possible_unfailed n s (Observed Failed ∷ es) h = not_both h
possible_unfailed n s (Up t ∷ es) h = possible_unfailed n (then s (Up t)) es (later (may n s (Up t)) _ h)
possible_unfailed n s (Down t ∷ es) h = possible_unfailed n (then s (Down t)) es (later (may n s (Down t)) _ h)

pub cut_found : (b k : ℕ) (es : List Event) (w : Walked Event) → cut b w ≡ explained k es → w ≡ found k es
unfolding cut
cut_found b k es (found j fs) h = go (leb j b) h
  where
    go : (t : Bool) → cond t (explained j fs) (undecided b) ≡ explained k es → found j fs ≡ found k es
    go true e = cc
    go false e = let z : ◌≡◌ {A = ℕ} 0 1 = cc in absurd (omega arith)
cut_found b k es (endless j) h = go (leb j b) h
  where
    go : (t : Bool) → cond t (unexplained j) (undecided b) ≡ explained k es → endless j ≡ found k es
    go true e = let z : ◌≡◌ {A = ℕ} 0 1 = cc in absurd (omega arith)
    go false e = let z : ◌≡◌ {A = ℕ} 0 1 = cc in absurd (omega arith)
cut_found b k es (stopped j) h = go (ltb j b) h
  where
    go : (t : Bool) → cond t too_deep (undecided b) ≡ explained k es → stopped j ≡ found k es
    go true e = let z : ◌≡◌ {A = ℕ} 0 1 = cc in absurd (omega arith)
    go false e = let z : ◌≡◌ {A = ℕ} 0 1 = cc in absurd (omega arith)

-- "SF never occurs there"
pub no_failed_event : (f : List ℕ) (t k : ℕ) (es : List Event) → outcome (tablets_in f) (evening f t) budget ≡ explained k es → Unfailed es
unfolding outcome
no_failed_event f t k es h =
    possible_unfailed (tablets_in f) (first_state (tablets_in f)) es
    (found_end_explains (tablets_in f) (evening f t) k es (cut_found budget k es (walk (tablets_in f) (evening f t)) h)).each_possible
