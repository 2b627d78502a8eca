-- Any two results that the contract of a public function of this crate allows for one input are equal; a part is its bytes.
-- Not of `read_full`: how much each read of a file brings is no part of its input, nor is what stands in the room past that.
-- Not of `run` either, which reads a file too: where its test has one answer for each case, any two tallies of the same cases are
-- equal. What is printed of a tally is one text, its `output`.
-- Assumes nothing.
use mathlib.Core.Bool.{Bool}
use mathlib.Core.List.{List, [], ◌∷◌}
use mathlib.Core.Path.{◌≡◌, refl, sym, ap, ap₂, ◌∙◌}
use Prim.Native.Nat.{ℕ}
use native.Mathlib.Omega.{arith}
use contract.Lifetimes.{Lfts}
use denote.Triple.Clauses.{AtExit}
use borrow.Fn.Kinds.{Dens, res_t, ended_of}
use Rattle.cases.proofs.Case.held.Kinds as held_kinds
use Rattle.cases.proofs.Case.held.Reads as held_reads
use Rattle.cases.proofs.Case.number.Kinds as number_kinds
use Rattle.cases.proofs.Case.number.Reads as number_reads
use Rattle.cases.proofs.Case.part.Kinds as part_kinds
use Rattle.cases.proofs.Case.part.Reads as part_reads
use Rattle.cases.proofs.stands.Kinds as stands_kinds
use Rattle.cases.proofs.stands.Reads as stands_reads
use Rattle.cases.proofs.filled.Kinds as filled_kinds
use Rattle.cases.proofs.filled.Reads as filled_reads
use Rattle.cases.proofs.CasesIterator.next.Kinds as next_kinds
use Rattle.cases.proofs.CasesIterator.next.Reads as next_reads
use Rattle.std.specs.Prelude.{Option, Some, None, MatchOption}
use Rattle.std.specs.Option.{option_map}
use Rattle.std.specs.List.{AllZip}
use Rattle.std.proofs.lemmas.Grind.{same_number_lists}
use Rattle.cases.specs.declared.Case.{Case}
use Rattle.cases.specs.declared.Tally.{Tally}
use Rattle.cases.specs.Seen.{packed_of, cases_left}
use Rattle.cases.specs.Tallied.{Comes, tally_of}
use Rattle.marks.proofs.Single.{Single}

number : Single 1 number_kinds.ps number_kinds.r number_reads.Learnt
number κs a x y e f p q = p ∙ sym q

part : (κs : Lfts 1) (a : Dens κs part_kinds.ps) (x y : (res_t part_kinds.r κs).Denot) (e f : AtExit (ended_of 1 part_kinds.ps part_kinds.r) κs)
    → part_reads.Learnt κs a x e → part_reads.Learnt κs a y f → x.now ≡ y.now
part κs a x y e f p q = p ∙ sym q

held : (κs : Lfts 1) (a : Dens κs held_kinds.ps) (x y : (res_t held_kinds.r κs).Denot) (e f : AtExit (ended_of 1 held_kinds.ps held_kinds.r) κs)
    → held_reads.Learnt κs a x e → held_reads.Learnt κs a y f → x.now ≡ y.now
held κs a x y e f p q = p ∙ sym q

stands : Single 2 stands_kinds.ps stands_kinds.r stands_reads.Learnt
stands κs a x y e f p q = p ∙ sym q

filled : (N : ℕ) (fits : _) → Single 1 (filled_kinds.ps N fits) (filled_kinds.r N fits) (filled_reads.Learnt N fits)
filled N fits κs a x y e f p q = same_number_lists x y (p.0 ∙ sym q.0) (λ k l. p.1 k l ∙ sym (q.1 k (omega arith)))

-- what a step gives, and what is left
one_step : (left after other : List (List ℕ)) (x y : Option Case)
    → MatchOption x ((left ≡ []) × (after ≡ [])) (λ c. left ≡ packed_of c ∷ after)
    → MatchOption y ((left ≡ []) × (other ≡ [])) (λ c. left ≡ packed_of c ∷ other)
    → (option_map packed_of x ≡ option_map packed_of y) × (after ≡ other)
one_step left after other None None p q = (refl, p.1 ∙ sym q.1)
one_step left after other None (Some c) p q = absurd (cc (p.0, q))
one_step left after other (Some c) None p q = absurd (cc (p, q.0))
one_step left after other (Some c) (Some d) p q = (cc, cc)

next : (κs : Lfts 2) (a : Dens κs next_kinds.ps) (x y : (res_t next_kinds.r κs).Denot) (e f : AtExit (ended_of 2 next_kinds.ps next_kinds.r) κs)
    → next_reads.Learnt κs a x e → next_reads.Learnt κs a y f
    → (option_map packed_of x ≡ option_map packed_of y) × (cases_left e.0.now ≡ cases_left f.0.now)
next κs a x y e f p q = one_step (cases_left a.0.now) _ _ x y p.0 q.0

-- where a test has one answer for each case, it answers in one way, and comes to one tally
answered : {gives : Case → Option Bool → Type 0} → ((case : Case) (x y : Option Bool) → gives case x → gives case y → x ≡ y)
    → (cases : List Case) (xs ys : List (Option Bool)) → AllZip gives cases xs → AllZip gives cases ys → xs ≡ ys
answered one [] [] [] p q = refl
answered one [] [] (y ∷ ys) p q = absurd q
answered one [] (x ∷ xs) ys p q = absurd p
answered one (c ∷ cases) [] ys p q = absurd p
answered one (c ∷ cases) (x ∷ xs) [] p q = absurd q
answered one (c ∷ cases) (x ∷ xs) (y ∷ ys) p q = ap₂ (λ z zs. z ∷ zs) (one c x y p.0 q.0) (answered one cases xs ys p.1 q.1)

tallied : {gives : Case → Option Bool → Type 0} {cases : List Case} → ((case : Case) (x y : Option Bool) → gives case x → gives case y → x ≡ y)
    → (s t : Tally) → Comes gives cases s → Comes gives cases t → s ≡ t
tallied {cases = cases} one s t p q = p.come_to ∙ ap tally_of (answered one cases p.answers q.answers p.each q.each) ∙ sym q.come_to
