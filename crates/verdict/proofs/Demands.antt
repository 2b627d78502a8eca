-- The three demands, each with its words, of whatever the contract of the call allows.
-- Assumes nothing.
use mathlib.Core.Bool.{Bool, true, false, cond}
use mathlib.Core.List.{List, ◌++◌}
use mathlib.Core.Path.{◌≡◌, refl, sym, ap, ◌∙◌, subst}
use Prim.Native.Nat.{ℕ, ◌*◌, ◌≤◌, ◌<◌}
use native.Mathlib.Omega.{arith}
use lib.Dec.{leb, ltb}
use lib.ListN.{length}
use borrow.Fn.Kinds.{Dens, res_t, ended_of}
use borrow.Author.Tests.{le-ltb, leb-true, leb-false}
use contract.Lifetimes.{Lfts}
use denote.Triple.Clauses.{AtExit}
use Rattle.model.specs.Walk.{Walked, found, endless, stopped, Outcome, explained, unexplained, undecided, too_deep, needed, Unstopped, Decided, cut}
use Rattle.model.specs.Model.{Explanation, depth, walk, outcome}
use Rattle.model.proofs.Theorems.{found_end_explains, no_end_no_explanation, still_unexplained, undecided_exactly, larger_budget_repeats}
use Rattle.model.specs.declared.Observation.{Observation}
use Rattle.model.specs.declared.Event.{Event}
use Rattle.tracefile.specs.Refusals as R
use Rattle.tracefile.specs.File.{tablets_in, check_trace}
use Rattle.tracefile.proofs.Listed.{trace_listed}
use Rattle.tracefile.proofs.Listed as L
use Rattle.walk.specs.Steps.{laid_in, outcome_in}
use Rattle.verdict.specs.Judged.{Said, explained_by, unexplained_in, undecided_at, refused, told, evening, said, walked_in, unless_refused, judged, room_walked, room_unless, room_judged, Allowed}
use Rattle.verdict.proofs.explain.Kinds as explain_kinds
use Rattle.verdict.proofs.explain.Reads as explain_reads

-- What a caller of `explain` learns is what is allowed.
pub what_is_allowed : (κs : Lfts 2) (a : Dens κs explain_kinds.ps) (r : (res_t explain_kinds.r κs).Denot) (e : AtExit (ended_of 2 explain_kinds.ps explain_kinds.r) κs)
    → explain_reads.Learnt κs a r e → Allowed a.0.now a.1.0 a.1.1.0 a.1.1.1.0.now (told r) e.1.1.1.0.now
what_is_allowed κs a r e p = record { says = p.0; leaves = p.1 }

-- ---- what the walk was, where the answer is decided

-- what a walk has to be for an answer
abbrev WalkSays : {E : Type 0} → Walked E → Outcome E → Type 0
WalkSays w (explained k es) = w ≡ found k es
WalkSays w (unexplained k) = w ≡ endless k
WalkSays w (undecided b) = Unit {0}
WalkSays w too_deep = Unit {0}

cut_says : {E : Type 0} (b : ℕ) (w : Walked E) → WalkSays w (cut b w)
unfolding cut
cut_says b (found k es) = go (leb k b)
  where
    go : (t : Bool) → WalkSays (found k es) (cond t (explained k es) (undecided b))
    go true = refl
    go false = tt
cut_says {E = E} b (endless k) = go (leb k b)
  where
    go : (t : Bool) → WalkSays {E = E} (endless k) (cond t (unexplained k) (undecided b))
    go true = refl
    go false = tt
cut_says {E = E} b (stopped k) = go (ltb k b)
  where
    go : (t : Bool) → WalkSays {E = E} (stopped k) (cond t too_deep (undecided b))
    go true = tt
    go false = tt

-- ---- demand 1

-- what may be said: a refusal's number is 1 to 10
abbrev pub Listed : Said → Type 0
Listed (explained_by k m) = Unit {0}
Listed (unexplained_in k) = Unit {0}
Listed (undecided_at b) = Unit {0}
Listed (refused number place) = (1 ≤ number) × (number ≤ 10)

judged_listed : (f : List ℕ) (t b room : ℕ) → Listed (judged f t b room)
unfolding judged unless_refused walked_in said
judged_listed f t b room = checked (check_trace f t) (trace_listed f t)
  where
    of_walk : (o : Outcome Event) → Listed (said o)
    of_walk (explained k es) = tt
    of_walk (unexplained k) = tt
    of_walk (undecided c) = tt
    of_walk too_deep = (omega arith, omega arith)

    fits : (c : Bool) → Listed (cond c (refused 9 0) (said (outcome (tablets_in f) (evening f t) b)))
    fits true = (omega arith, omega arith)
    fits false = of_walk (outcome (tablets_in f) (evening f t) b)

    checked : (c : R.Answer) → L.Listed c → Listed (unless_refused c (walked_in f t b room))
    checked R.accepted h = fits (ltb room (2 * depth (tablets_in f) (evening f t)))
    checked (R.refused number place) h = (h.0, omega arith)

-- "every call ends with one of the listed results"
pub one_of_the_listed : (f : List ℕ) (t b : ℕ) (room : List ℕ) (s : Said) (after : List ℕ) → Allowed f t b room s after → Listed s
one_of_the_listed f t b room s after p = subst Listed (sym p.says) (judged_listed f t b (length room))

-- What the call comes to, told apart once: what each answer means for the evening and for the room.
abbrev Means : List ℕ → ℕ → List ℕ → Said → List ℕ → Type 0
Means f t room (explained_by k m) after =
    (es : List Event) × ((walk (tablets_in f) (evening f t) ≡ found k es) × ((length es ≡ m) × (after ≡ laid_in es room)))
Means f t room (unexplained_in k) after = (walk (tablets_in f) (evening f t) ≡ endless k) × (after ≡ room)
Means f t room (undecided_at b) after = after ≡ room
Means f t room (refused number place) after = after ≡ room

outcome_means : (f : List ℕ) (t : ℕ) (room : List ℕ) (o : Outcome Event) → WalkSays (walk (tablets_in f) (evening f t)) o
    → Means f t room (said o) (outcome_in o room)
unfolding said outcome_in
outcome_means f t room (explained k es) h = (es, (h, (refl, refl)))
outcome_means f t room (unexplained k) h = (h, refl)
outcome_means f t room (undecided b) h = refl
outcome_means f t room too_deep h = refl

judged_means : (f : List ℕ) (t b : ℕ) (room : List ℕ) → Means f t room (judged f t b (length room)) (room_judged f t b room)
unfolding judged room_judged walked_in room_walked unless_refused room_unless outcome
judged_means f t b room = checked (check_trace f t)
  where
    fits : (c : Bool) → Means f t room (cond c (refused 9 0) (said (outcome (tablets_in f) (evening f t) b)))
        (cond c room (outcome_in (outcome (tablets_in f) (evening f t) b) room))
    fits true = refl
    fits false = outcome_means f t room (outcome (tablets_in f) (evening f t) b) (cut_says b (walk (tablets_in f) (evening f t)))

    checked : (c : R.Answer) → Means f t room (unless_refused c (walked_in f t b (length room))) (room_unless c room (room_walked f t b room))
    checked R.accepted = fits (ltb (length room) (2 * depth (tablets_in f) (evening f t)))
    checked (R.refused number place) = refl

-- the same of an answer that is allowed
means : (f : List ℕ) (t b : ℕ) (room : List ℕ) (s : Said) (after : List ℕ) → Allowed f t b room s after → Means f t room s after
means f t b room s after p =
    subst (λ a. Means f t room s a) (sym p.leaves)
    (subst (λ x. Means f t room x (room_judged f t b room)) (sym p.says) (judged_means f t b room))

-- "the room lent for an explanation … is then exactly as it came": whatever is said but "explained" leaves the room.
pub room_as_it_came : (f : List ℕ) (t b : ℕ) (room : List ℕ) (s : Said) (after : List ℕ) → Allowed f t b room s after
    → ((k m : ℕ) → s ≡ explained_by k m → ⊥) → after ≡ room
room_as_it_came f t b room s after p other = kept s other (means f t b room s after p)
  where
    kept : (s : Said) → ((k m : ℕ) → s ≡ explained_by k m → ⊥) → Means f t room s after → after ≡ room
    kept (explained_by k m) none h = absurd (none k m refl)
    kept (unexplained_in k) none h = h.1
    kept (undecided_at c) none h = h
    kept (refused number place) none h = h

-- ---- demand 2

-- "'Explained' comes only with a sequence … that the published model allows from its first state": the room holds, event by
-- event, a sequence that explains the trace, and the answer says how many events it has.
pub explained_only_with : (f : List ℕ) (t b : ℕ) (room : List ℕ) (k m : ℕ) (s : Said) (after : List ℕ) → Allowed f t b room s after
    → s ≡ explained_by k m
    → (es : List Event) × (Explanation (tablets_in f) (evening f t) es × ((length es ≡ m) × (after ≡ laid_in es room)))
explained_only_with f t b room k m s after p h =
    let q = subst (λ x. Means f t room x after) h (means f t b room s after p) in
    (q.0, (found_end_explains (tablets_in f) (evening f t) k q.0 q.1.0, q.1.1))

-- "'Unexplained' comes only if no such sequence exists."
pub unexplained_only_if : (f : List ℕ) (t b : ℕ) (room : List ℕ) (k : ℕ) (s : Said) (after : List ℕ) → Allowed f t b room s after
    → s ≡ unexplained_in k → (es : List Event) → Explanation (tablets_in f) (evening f t) es → ⊥
unexplained_only_if f t b room k s after p h =
    no_end_no_explanation (tablets_in f) (evening f t) k (subst (λ x. Means f t room x after) h (means f t b room s after p)).0

-- ---- demand 3

-- "For a good file, a trace in it, room enough": what is said is what the walk says within the budget.
pub record Ready (f : List ℕ) (t : ℕ) (room : List ℕ) : Type 0 where
  pub good : check_trace f t ≡ R.accepted
  pub enough : 2 * depth (tablets_in f) (evening f t) ≤ length room

pub as_walked : (f : List ℕ) (t b : ℕ) (room : List ℕ) → Ready f t room → judged f t b (length room) ≡ said (outcome (tablets_in f) (evening f t) b)
unfolding judged unless_refused walked_in
as_walked f t b room y =
    ap (λ c. unless_refused c (walked_in f t b (length room))) y.good
    ∙ ap (λ c. cond c (refused 9 0) (said (outcome (tablets_in f) (evening f t) b))) (le-ltb (length room) (2 * depth (tablets_in f) (evening f t)) y.enough)

pub room_as_walked : (f : List ℕ) (t b : ℕ) (room : List ℕ) → Ready f t room
    → room_judged f t b room ≡ outcome_in (outcome (tablets_in f) (evening f t) b) room
unfolding room_judged room_unless room_walked
room_as_walked f t b room y =
    ap (λ c. room_unless c room (room_walked f t b room)) y.good
    ∙ ap (λ c. cond c room (outcome_in (outcome (tablets_in f) (evening f t) b) room)) (le-ltb (length room) (2 * depth (tablets_in f) (evening f t)) y.enough)

-- undecided and nothing else
abbrev pub IsUndecided : Said → Type 0
IsUndecided (explained_by k m) = ⊥
IsUndecided (unexplained_in k) = ⊥
IsUndecided (undecided_at b) = Unit {0}
IsUndecided (refused number place) = ⊥

not_undecided : (o : Outcome Event) → Decided o → IsUndecided (said o) → ⊥
unfolding said
not_undecided (explained k es) d u = u
not_undecided (unexplained k) d u = u
not_undecided (undecided b) d u = d
not_undecided too_deep d u = d

-- "'undecided' exactly when the ordered walk … needs more points than the budget"
pub undecided_if_more : (f : List ℕ) (t b : ℕ) (room : List ℕ) (s : Said) (after : List ℕ) → Ready f t room → Unstopped (walk (tablets_in f) (evening f t))
    → Allowed f t b room s after → b < needed (walk (tablets_in f) (evening f t)) → s ≡ undecided_at b
unfolding said
undecided_if_more f t b room s after y u p h =
    p.says ∙ as_walked f t b room y ∙ ap said ((undecided_exactly (tablets_in f) (evening f t) b u).0 h)

pub more_if_undecided : (f : List ℕ) (t b c : ℕ) (room : List ℕ) (s : Said) (after : List ℕ) → Ready f t room → Unstopped (walk (tablets_in f) (evening f t))
    → Allowed f t b room s after → s ≡ undecided_at c → b < needed (walk (tablets_in f) (evening f t))
more_if_undecided f t b c room s after y u p h = go (leb (needed (walk (tablets_in f) (evening f t))) b) refl
  where
    go : (z : Bool) → leb (needed (walk (tablets_in f) (evening f t))) b ≡ z → b < needed (walk (tablets_in f) (evening f t))
    go true e = absurd (not_undecided (outcome (tablets_in f) (evening f t) b)
        ((undecided_exactly (tablets_in f) (evening f t) b u).1 (leb-true (needed (walk (tablets_in f) (evening f t))) b e))
        (subst IsUndecided (sym h ∙ p.says ∙ as_walked f t b room y) tt))
    go false e = leb-false (needed (walk (tablets_in f) (evening f t))) b e

-- decided is explained or unexplained
abbrev pub IsDecided : Said → Type 0
IsDecided (explained_by k m) = Unit {0}
IsDecided (unexplained_in k) = Unit {0}
IsDecided (undecided_at b) = ⊥
IsDecided (refused number place) = ⊥

walk_decided : (o : Outcome Event) → IsDecided (said o) → Decided o
unfolding said
walk_decided (explained k es) d = tt
walk_decided (unexplained k) d = tt
walk_decided (undecided b) d = d
walk_decided too_deep d = d

-- "Any larger budget repeats a decided result, explanation and point count included": the answer and the room.
pub repeated : (f : List ℕ) (t b c : ℕ) (room : List ℕ) (s r : Said) (after later : List ℕ) → Ready f t room → b ≤ c
    → IsDecided s → Allowed f t b room s after → Allowed f t c room r later
    → (r ≡ s) × (later ≡ after)
repeated f t b c room s r after later z l d p q =
    let decided = walk_decided (outcome (tablets_in f) (evening f t) b) (subst IsDecided (p.says ∙ as_walked f t b room z) d) in
    let same = larger_budget_repeats (tablets_in f) (evening f t) b c l decided in (
      q.says ∙ as_walked f t c room z ∙ ap said same ∙ sym (as_walked f t b room z) ∙ sym p.says,
      q.leaves ∙ room_as_walked f t c room z ∙ ap (λ o. outcome_in o room) same ∙ sym (room_as_walked f t b room z) ∙ sym p.leaves,
    )

-- "A trace without an explanation still has none after further observations."
pub none_later : (f : List ℕ) (t b : ℕ) (room : List ℕ) (k : ℕ) (s : Said) (after : List ℕ) → Allowed f t b room s after → s ≡ unexplained_in k
    → (more : List Observation) (es : List Event) → Explanation (tablets_in f) (evening f t ++ more) es → ⊥
none_later f t b room k s after p h more =
    still_unexplained (tablets_in f) (evening f t) more (unexplained_only_if f t b room k s after p h)
