-- The three demands, each with its words, of the status, the room and the area that the contract of the C call allows.
-- Assumes nothing.
use Prim.Native.Nat.{ℕ, ◌≤◌, ◌<◌}
use native.Mathlib.Omega.{arith}
use mathlib.Core.Bool.{Bool, true, false}
use mathlib.Core.List.{List, ◌++◌}
use mathlib.Core.Path.{◌≡◌, refl, sym, ap, ◌∙◌, subst}
use contract.Lifetimes.{Lfts}
use denote.Triple.Clauses.{AtExit}
use lib.Dec.{eqb}
use lib.ListN.{length}
use borrow.Author.Tests.{eq-eqb, eqb-true, eqb-false}
use borrow.Fn.Kinds.{Dens, res_t, ended_of}
use Rattle.model.specs.Walk.{needed, Unstopped}
use Rattle.model.specs.Model.{Explanation, walk}
use Rattle.model.specs.declared.Observation.{Observation}
use Rattle.model.specs.declared.Event.{Event}
use Rattle.tracefile.specs.File.{tablets_in}
use Rattle.walk.specs.Steps.{laid_in}
use Rattle.verdict.specs.Judged.{Said, explained_by, unexplained_in, undecided_at, refused, evening, judged}
use Rattle.verdict.specs.Judged as J
use Rattle.verdict.proofs.Demands.{Listed, IsDecided, Ready}
use Rattle.verdict.proofs.Demands as D
use Rattle.console.specs.Called.{handed_by, four_bytes, area_of, status, room_after, area_after, Allowed}
use Rattle.console.proofs.Calls.{wrong_area}
use Rattle.console.proofs.sklandupa_explain.Kinds as kinds
use Rattle.console.proofs.sklandupa_explain.Reads as reads

-- What a caller learns is what is allowed.
pub what_is_allowed : (κs : Lfts 3) (a : Dens κs kinds.ps) (r : (res_t kinds.r κs).Denot) (e : AtExit (ended_of 3 kinds.ps kinds.r) κs) → reads.Learnt κs a r e
    → Allowed a.0.now a.1.0 a.1.1.0 a.1.1.1.0.now a.1.1.1.1.0.now r e.1.1.1.0.now e.1.1.1.1.0.now
what_is_allowed κs a r e p = record { says = p.0; leaves = p.1.0; tells = p.1.1 }

-- ---- what each status is said of

is_explained : (s : Said) → (handed_by s).status ≡ 0 → (k : ℕ) × ((m : ℕ) × (s ≡ explained_by k m))
is_explained (explained_by k m) h = (k, (m, refl))
is_explained (unexplained_in k) h = absurd (omega arith)
is_explained (undecided_at b) h = absurd (omega arith)
is_explained (refused number place) h = absurd (omega arith)

is_unexplained : (s : Said) → (handed_by s).status ≡ 1 → (k : ℕ) × (s ≡ unexplained_in k)
is_unexplained (explained_by k m) h = absurd (omega arith)
is_unexplained (unexplained_in k) h = (k, refl)
is_unexplained (undecided_at b) h = absurd (omega arith)
is_unexplained (refused number place) h = absurd (omega arith)

is_undecided : (s : Said) → (handed_by s).status ≡ 2 → (b : ℕ) × (s ≡ undecided_at b)
is_undecided (explained_by k m) h = absurd (omega arith)
is_undecided (unexplained_in k) h = absurd (omega arith)
is_undecided (undecided_at b) h = (b, refl)
is_undecided (refused number place) h = absurd (omega arith)

is_decided : (s : Said) → (handed_by s).status ≤ 1 → IsDecided s
is_decided (explained_by k m) h = tt
is_decided (unexplained_in k) h = tt
is_decided (undecided_at b) h = absurd (omega arith)
is_decided (refused number place) h = absurd (omega arith)

-- 0, 1, 2 or 11 to 20
abbrev pub OneOf : ℕ → Type 0
OneOf answer = (answer ≤ 20) × (2 < answer → 11 ≤ answer)

one_of : (s : Said) → Listed s → OneOf (handed_by s).status
one_of (explained_by k m) l = (omega arith, λ h. omega arith)
one_of (unexplained_in k) l = (omega arith, λ h. omega arith)
one_of (undecided_at b) l = (omega arith, λ h. omega arith)
one_of (refused number place) l = let x = l.0 in let y = l.1 in (omega arith, λ h. omega arith)

module _ (f : List ℕ) (t b : ℕ) (room area : List ℕ) (answer : ℕ) (room_left area_left : List ℕ) (p : Allowed f t b room area answer room_left area_left) where
  -- an area not of 12 bytes: "refusal 9 before all else", and it "stays untouched"
  pub area_as_it_came : (length area ≡ 12 → ⊥) → (answer ≡ 19) × ((room_left ≡ room) × (area_left ≡ area))
  area_as_it_came h = let w = wrong_area f t b room area h in (p.says ∙ sym w.result, (p.leaves ∙ sym w.room, p.tells ∙ sym w.area))

  -- what is said, and what the library's call below allows
  abbrev said : Said
  said = judged f t b (length room)

  module _ (twelve : length area ≡ 12) where
    below : J.Allowed f t b room said room_left
    unfolding room_after
    below = record { says = refl; leaves = p.leaves ∙ rw (eq-eqb (length area) 12 twelve) refl }

    its_status : answer ≡ (handed_by said).status
    unfolding status
    its_status = p.says ∙ rw (eq-eqb (length area) 12 twelve) refl

    its_area : area_left ≡ area_of (handed_by said)
    unfolding area_after
    its_area = p.tells ∙ rw (eq-eqb (length area) 12 twelve) refl

  -- an area is of 12 bytes or not
  by_area : (P : Type 0) → (length area ≡ 12 → P) → ((length area ≡ 12 → ⊥) → P) → P
  by_area P of_twelve of_other = go (eqb (length area) 12) refl
    where
      go : (z : Bool) → eqb (length area) 12 ≡ z → P
      go true e = of_twelve (eqb-true (length area) 12 e)
      go false e = of_other (eqb-false (length area) 12 e)

  -- ---- demand 1

  -- "every call ends with one of the listed results"
  pub one_of_the_listed : OneOf answer
  one_of_the_listed =
      by_area (OneOf answer)
      (λ twelve. subst OneOf (sym (its_status twelve)) (one_of said (D.one_of_the_listed f t b room said room_left (below twelve))))
      (λ other. let e = (area_as_it_came other).0 in (omega arith, λ h. omega arith))

  -- "the room lent for an explanation … is then exactly as it came": whatever the status is but 0
  pub room_as_it_came : (answer ≡ 0 → ⊥) → room_left ≡ room
  room_as_it_came h =
      by_area (room_left ≡ room)
      (λ twelve. D.room_as_it_came f t b room said room_left (below twelve) (λ k m e. h (its_status twelve ∙ ap (λ s. (handed_by s).status) e)))
      (λ other. (area_as_it_came other).1.0)

  -- ---- demand 2

  of_twelve_bytes : answer ≤ 2 → length area ≡ 12
  of_twelve_bytes l = by_area (length area ≡ 12) (λ twelve. twelve) (λ other. let e = (area_as_it_came other).0 in absurd (omega arith))

  -- "'Explained' comes only with a sequence …": the room holds it, and the area says how long it is
  pub explained_only_with : answer ≡ 0
      → (es : List Event) × (Explanation (tablets_in f) (evening f t) es × ((room_left ≡ laid_in es room)
      × ((points : ℕ) × (area_left ≡ four_bytes points ++ (four_bytes (length es) ++ four_bytes 0)))))
  explained_only_with z =
      let twelve = of_twelve_bytes (omega arith) in
      let s = is_explained said (sym (its_status twelve) ∙ z) in
      let e = D.explained_only_with f t b room s.0 s.1.0 said room_left (below twelve) s.1.1 in
      (e.0, (e.1.0, (e.1.1.1, (s.0, its_area twelve ∙ ap (λ x. area_of (handed_by x)) s.1.1 ∙ ap (λ (m : ℕ). four_bytes s.0 ++ (four_bytes m ++ four_bytes 0)) (sym e.1.1.0)))))

  -- "'Unexplained' comes only if no such sequence exists."
  pub unexplained_only_if : answer ≡ 1 → (es : List Event) → Explanation (tablets_in f) (evening f t) es → ⊥
  unexplained_only_if z =
      let twelve = of_twelve_bytes (omega arith) in
      let s = is_unexplained said (sym (its_status twelve) ∙ z) in
      D.unexplained_only_if f t b room s.0 said room_left (below twelve) s.1

  -- ---- demand 3

  -- "A trace without an explanation still has none after further observations."
  pub none_later : answer ≡ 1 → (more : List Observation) (es : List Event) → Explanation (tablets_in f) (evening f t ++ more) es → ⊥
  none_later z =
      let twelve = of_twelve_bytes (omega arith) in
      let s = is_unexplained said (sym (its_status twelve) ∙ z) in
      D.none_later f t b room s.0 said room_left (below twelve) s.1

  -- "For a good file, a trace in it, room enough and no depth stop", the area being part of the room
  module _ (twelve : length area ≡ 12) (ready : Ready f t room) where
    -- "'undecided' exactly when the ordered walk … needs more points than the budget"
    pub undecided_if_more : Unstopped (walk (tablets_in f) (evening f t)) → b < needed (walk (tablets_in f) (evening f t)) → answer ≡ 2
    undecided_if_more u h =
        its_status twelve ∙ ap (λ s. (handed_by s).status) (D.undecided_if_more f t b room said room_left ready u (below twelve) h)

    pub more_if_undecided : Unstopped (walk (tablets_in f) (evening f t)) → answer ≡ 2 → b < needed (walk (tablets_in f) (evening f t))
    more_if_undecided u z =
        let s = is_undecided said (sym (its_status twelve) ∙ z) in
        D.more_if_undecided f t b s.0 room said room_left ready u (below twelve) s.1

-- "Any larger budget repeats a decided result, explanation and point count included": status, room and area
pub repeated : (f : List ℕ) (t b c : ℕ) (room area : List ℕ) (answer later : ℕ) (room_left area_left room_later area_later : List ℕ)
    → Allowed f t b room area answer room_left area_left → Allowed f t c room area later room_later area_later
    → length area ≡ 12 → Ready f t room → b ≤ c → answer ≤ 1
    → (later ≡ answer) × ((room_later ≡ room_left) × (area_later ≡ area_left))
repeated f t b c room area answer later room_left area_left room_later area_later p q twelve ready l d =
    let decided = is_decided (judged f t b (length room)) (subst (λ x. x ≤ 1) (its_status f t b room area answer room_left area_left p twelve) d) in
    let same = D.repeated f t b c room (judged f t b (length room)) (judged f t c (length room)) room_left room_later ready l decided
    (below f t b room area answer room_left area_left p twelve) (below f t c room area later room_later area_later q twelve) in (
      its_status f t c room area later room_later area_later q twelve ∙ ap (λ s. (handed_by s).status) same.0 ∙ sym (its_status f t b room area answer room_left area_left p twelve),
      (
        same.1,
        its_area f t c room area later room_later area_later q twelve ∙ ap (λ s. area_of (handed_by s)) same.0 ∙ sym (its_area f t b room area answer room_left area_left p twelve),
      ),
    )
