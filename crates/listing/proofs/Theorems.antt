-- Going through a body with the reader gives exactly the observations of that body, in order, and then the end for ever.
-- Assumes nothing.
use Prim.Native.Nat.{ℕ, zero, suc, ◌+◌, ◌*◌, ◌/◌, ◌≤◌, ◌<◌}
use native.Mathlib.Nat.{add-zero}
use native.Mathlib.Omega.{arith}
use mathlib.Core.Bool.{Bool, true, false, cond}
use mathlib.Core.List.{List, [], ◌∷◌, ◌++◌, append-nil}
use mathlib.Core.Path.{◌≡◌, refl, sym, ap, ap₂, ◌∙◌}
use denote.Ref.{Bor}
use Rattle.std.specs.Prelude.{Option, Some, None}
use lib.Dec.{leb}
use lib.ListN.{length, drop, length-drop}
use lib.Seq.{drop-drop}
use borrow.Author.Tests.{le-leb, lt-leb}
use Rattle.model.specs.declared.Observation.{Observation}
use Rattle.records.specs.Records.{record_at, next_record, observation_of, observed, observations}
use Rattle.records.specs.declared.Record.{Record}
use Rattle.records.proofs.Parts.{record_drop}
use Rattle.listing.specs.Positions.{position, place, given_by, through}
use Rattle.listing.specs.declared.Listing.{Listing}

-- ---- one step

pub whole_record : (body : List ℕ) (at : ℕ) → at + 12 ≤ length body → next_record body at ≡ (Some (record_at body at), at + 12)
unfolding next_record
whole_record body at h = ap (λ t. cond t (Some (record_at body at), at + 12) (None, at)) (le-leb (at + 12) (length body) h)

pub none_left : (body : List ℕ) (at : ℕ) → length body < at + 12 → next_record body at ≡ (None, at)
unfolding next_record
none_left body at h = ap (λ t. cond t (Some (record_at body at), at + 12) (None, at)) (lt-leb (at + 12) (length body) h)

-- ---- as many steps as there are records

steps_on : (body : List ℕ) (steps at : ℕ) → at + 12 * steps ≤ length body → place body at steps ≡ at + 12 * steps
unfolding place
steps_on body zero at h = omega arith
steps_on body (suc steps) at h =
    ap (λ (s : Option Record × ℕ). place body (position s) steps) (whole_record body at (omega arith)) ∙ steps_on body steps (at + 12) (omega arith) ∙ omega arith

steps_give : (body : List ℕ) (steps at : ℕ) → at + 12 * steps ≤ length body → through body at steps ≡ observed steps (drop at body)
unfolding through observed
steps_give body zero at h = refl
steps_give body (suc steps) at h =
    let l = length-drop at body in
    let r : record_at body at ≡ record_at (drop at body) 0 = sym (record_drop body at 0 (omega arith) ∙ ap (record_at body) (add-zero at)) in
    ap (λ (s : Option Record × ℕ). given_by s (through body (position s) steps)) (whole_record body at (omega arith))
    ∙ ap₂ (λ (x : Observation) (xs : List Observation). x ∷ xs) (ap observation_of r)
    (steps_give body steps (at + 12) (omega arith) ∙ ap (observed steps) (sym (drop-drop 12 at body)))

-- ---- at the end

stays : (body : List ℕ) (steps at : ℕ) → length body < at + 12 → place body at steps ≡ at
unfolding place
stays body zero at h = refl
stays body (suc steps) at h = ap (λ (s : Option Record × ℕ). place body (position s) steps) (none_left body at h) ∙ stays body steps at h

gives_none : (body : List ℕ) (steps at : ℕ) → length body < at + 12 → through body at steps ≡ []
unfolding through
gives_none body zero at h = refl
gives_none body (suc steps) at h = ap (λ (s : Option Record × ℕ). given_by s (through body (position s) steps)) (none_left body at h) ∙ gives_none body steps at h

-- ---- some steps, and then more

place_on : (body : List ℕ) (steps at : ℕ) → place body at (suc steps) ≡ position (next_record body (place body at steps))
unfolding place
place_on body zero at = refl
place_on body (suc steps) at = place_on body steps (position (next_record body at))

place_add : (body : List ℕ) (steps more at : ℕ) → place body at (steps + more) ≡ place body (place body at steps) more
unfolding place
place_add body zero more at = let e : zero + more ≡ more = omega arith in ap (place body at) e
place_add body (suc steps) more at =
    let e : suc steps + more ≡ suc (steps + more) = omega arith in ap (place body at) e ∙ place_add body steps more (position (next_record body at))

given_on : (s : Option Record × ℕ) (xs ys : List Observation) → given_by s (xs ++ ys) ≡ given_by s xs ++ ys
given_on (Some r, after) xs ys = refl
given_on (None, same) xs ys = refl

through_add : (body : List ℕ) (steps more at : ℕ) → through body at (steps + more) ≡ through body at steps ++ through body (place body at steps) more
unfolding through place
through_add body zero more at = let e : zero + more ≡ more = omega arith in ap (through body at) e
through_add body (suc steps) more at =
    let e : suc steps + more ≡ suc (steps + more) = omega arith in
    let s = next_record body at in
    ap (through body at) e ∙ ap (given_by s) (through_add body steps more (position s)) ∙ given_on s (through body (position s) steps) (through body (place body (position s) steps) more)

-- where the records end
abbrev records_end : List ℕ → ℕ
records_end body = 12 * (length body / 12)

reaches_end : (body : List ℕ) → place body 0 (length body / 12) ≡ records_end body
reaches_end body = steps_on body (length body / 12) 0 (omega arith) ∙ omega arith

-- ---- the theorems

-- "gives exactly the observations of that body, in order"
pub all_in_order : (body : List ℕ) → through body 0 (length body / 12) ≡ observations body
unfolding observations
all_in_order body = steps_give body (length body / 12) 0 (omega arith)

-- "and then the end for ever": it stays where the records end, and no further step gives anything
pub end_for_ever : (body : List ℕ) (more : ℕ) → next_record body (place body 0 (length body / 12 + more)) ≡ (None, 12 * (length body / 12))
end_for_ever body more =
    let here : place body 0 (length body / 12 + more) ≡ records_end body =
    place_add body (length body / 12) more 0 ∙ ap (λ (at : ℕ). place body at more) (reaches_end body) ∙ stays body more (records_end body) (omega arith) in
    ap (next_record body) here ∙ none_left body (records_end body) (omega arith)

pub nothing_more : (body : List ℕ) (more : ℕ) → through body 0 (length body / 12 + more) ≡ observations body
nothing_more body more =
    through_add body (length body / 12) more 0
    ∙ ap₂ ◌++◌ (all_in_order body) (ap (λ (at : ℕ). through body at more) (reaches_end body) ∙ gives_none body more (records_end body) (omega arith))
    ∙ append-nil (observations body)

-- The same of readers: the first is what the contract of `start` allows, and each further one what that of `advance` allows
-- for the one before it. The reader after k steps then stands at the body's place after k steps, where `next` gives the step.
pub record Readers (readers : ℕ → Listing) (body : Bor (List ℕ)) : Type 0 where
  pub started : ((readers 0).body ≡ body) × ((readers 0).at ≡ 0)
  pub advanced : (k : ℕ) → ((readers (suc k)).body ≡ (readers k).body) × ((readers (suc k)).at ≡ position (next_record (readers k).body.now (readers k).at))

pub stands_at : (readers : ℕ → Listing) (body : Bor (List ℕ)) → Readers readers body → (k : ℕ) → ((readers k).body ≡ body) × ((readers k).at ≡ place body.now 0 k)
unfolding place
stands_at readers body p zero = p.started
stands_at readers body p (suc k) =
    let before = stands_at readers body p k in
    let step = p.advanced k in (
      step.0 ∙ before.0,
      step.1 ∙ ap₂ (λ (b : Bor (List ℕ)) (at : ℕ). position (next_record b.now at)) before.0 before.1 ∙ sym (place_on body.now k 0),
    )

-- a record that is given is 12 bytes long
pub moves_on : (body : List ℕ) (at after : ℕ) (r : Record) (s : Option Record × ℕ) → s ≡ next_record body at → s ≡ (Some r, after) → after ≡ at + 12
unfolding next_record
moves_on body at after r s p q = go (leb (at + 12) (length body)) (sym q ∙ p)
  where
    go : (t : Bool) → ◌≡◌ {A = Option Record × ℕ} (Some r, after) (cond t (Some (record_at body at), at + 12) (None, at)) → after ≡ at + 12
    go true e = ap (λ (t : Option Record × ℕ). t.1) e
    go false e = let none : Some r ≡ None = ap (λ (t : Option Record × ℕ). t.0) e in let z : ◌≡◌ {A = ℕ} 0 1 = cc in absurd (omega arith)
