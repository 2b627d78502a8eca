-- Any two results that the contract of a public function of this crate allows for one input are equal. A reader is its body
-- and its position.
-- Assumes nothing.
use Prim.Native.Nat.{ℕ}
use mathlib.Core.List.{List}
use mathlib.Core.Path.{◌≡◌, sym, ap, ap₂, ◌∙◌}
use denote.Ref.{Bor}
use Rattle.std.specs.Prelude.{Option}
use Rattle.records.specs.Records.{next_record}
use Rattle.records.specs.declared.Record.{Record}
use Rattle.listing.specs.Positions.{position, Gives}
use Rattle.listing.specs.declared.Listing.{Listing}
use Rattle.listing.proofs.position_after.Kinds as position_after_kinds
use Rattle.listing.proofs.position_after.Reads as position_after_reads
use Rattle.marks.proofs.Single.{Single}

made_of : Bor (List ℕ) → ℕ → Listing
made_of body at = record { body = body; at = at }

same_reader : (x y : Listing) → x.body ≡ y.body → x.at ≡ y.at → x ≡ y
unfolding made_of
same_reader x y e g = ap₂ made_of e g

start : (body : Bor (List ℕ)) (x y : Listing) → (x.body ≡ body) × (x.at ≡ 0) → (y.body ≡ body) × (y.at ≡ 0) → x ≡ y
start body x y p q = same_reader x y (p.0 ∙ sym q.0) (p.1 ∙ sym q.1)

next : (listing : Listing) (x y : Option Record × ℕ) → x ≡ next_record listing.body.now listing.at → y ≡ next_record listing.body.now listing.at → x ≡ y
next listing x y p q = p ∙ sym q

position_after : Single 1 position_after_kinds.ps position_after_kinds.r position_after_reads.Learnt
position_after κs a x y e f p q = p ∙ sym q

advance : (listing x y : Listing) → (x.body ≡ listing.body) × (x.at ≡ position (next_record listing.body.now listing.at))
    → (y.body ≡ listing.body) × (y.at ≡ position (next_record listing.body.now listing.at)) → x ≡ y
advance listing x y p q = same_reader x y (p.0 ∙ sym q.0) (p.1 ∙ sym q.1)

step_from : (body : List ℕ) (at : ℕ) (x y : Option Record × ℕ) → x ≡ next_record body at → y ≡ next_record body at → x ≡ y
step_from body at x y p q = p ∙ sym q

-- a call of a reader's `next`, on what it gives and on what it leaves
iterator_next : (s t u : Listing) (x y : Option Record) → Gives s x t → Gives s y u → (x ≡ y) × (t ≡ u)
iterator_next s t u x y p q =
    let same = p.2 ∙ sym q.2 in (
      ap (λ (step : Option Record × ℕ). step.0) same,
      same_reader t u (p.1 ∙ sym q.1) (ap (λ (step : Option Record × ℕ). step.1) same),
    )
