-- The events of a line, put one after the other; and that they have no more than 3 bytes each.
-- Assumes nothing.
use mathlib.Core.Bool.{Bool, true, false, cond}
use mathlib.Core.List.{List, [], ◌∷◌, ◌++◌}
use mathlib.Core.Path.{◌≡◌, refl, ap, ◌∙◌}
use Prim.Native.Nat.{ℕ, zero, suc, ◌+◌, ◌/◌, ◌≤◌, ◌<◌}
use native.Mathlib.Omega.{arith}
use borrow.Author.Tests.{ne_eqb}
use lib.Dec.{eqb}
use lib.ListN.{length, drop, get_or, length-append}
use lib.Seq.{drop-cons}
use native.Mathlib.Numerals.{add-one}
use Rattle.std.specs.Prelude.{Result, Ok, Err}
use Rattle.std.specs.Simd.{first_chunks}
use Rattle.model.specs.declared.Kind.{Kind}
use Rattle.model.specs.declared.Kind.TheVariants.{Read, Write, Stabilize, Failed, Up, Down}
use Rattle.model.specs.declared.UnknownKind.{UnknownKind}
use Rattle.model.specs.Kinds.{kind_of}
use Rattle.lines.specs.Words.{words}
use Rattle.lines.specs.Text.{digit, line_end, event_letter, event_text, later_events, events_text}
use Rattle.lines.specs.Put.{events_room}
use Rattle.lines.specs.Pieces.{Puts}
use Rattle.lines.specs.declared.pieces.Line.{Line}
use Rattle.lines.proofs.Lines.{puts_as}

-- ---- the bytes of an event, and of all

one_letter : (kind : ℕ) → length (event_letter kind) ≡ 1
unfolding event_letter
one_letter kind = go (eqb kind 1) (eqb kind 2) (eqb kind 5) (eqb kind 6)
  where
    go : (a b c d : Bool) → length (cond a (words "R") (cond b (words "W") (cond c (words "U") (cond d (words "D") (words "?"))))) ≡ 1
    go true b c d = refl
    go false true c d = refl
    go false false true d = refl
    go false false false true = refl
    go false false false false = refl

event_few : (kind tablet : ℕ) → length (event_text kind tablet) ≤ 2
unfolding event_text
event_few kind tablet = go (eqb kind 3) (eqb kind 4)
  where
    go : (a b : Bool) → length (cond a (words "S") (cond b (words "SF") (event_letter kind ++ (digit tablet ∷ [])))) ≤ 2
    go true b = omega arith
    go false true = omega arith
    go false false = rw length-append (omega (arith, one_letter kind))

later_few : (events : List ℕ) → length (later_events events) ≤ events_room events
unfolding later_events
later_few [] = omega arith
later_few (kind ∷ []) = omega arith
later_few (kind ∷ tablet ∷ rest) =
    simp length-append (omega (arith, later_few rest, event_few kind tablet))

pub events_few : (events : List ℕ) → length (events_text events) ≤ events_room events
unfolding events_text
events_few [] = omega arith
events_few (kind ∷ []) = omega arith
events_few (kind ∷ tablet ∷ rest) = simp length-append (omega (arith, later_few rest, event_few kind tablet))

-- ---- the text of an event by its kind

abbrev text_by : Result Kind UnknownKind → ℕ → List ℕ
text_by (Ok Read) tablet = words "R" ++ (digit tablet ∷ [])
text_by (Ok Write) tablet = words "W" ++ (digit tablet ∷ [])
text_by (Ok Stabilize) tablet = words "S"
text_by (Ok Failed) tablet = words "SF"
text_by (Ok Up) tablet = words "U" ++ (digit tablet ∷ [])
text_by (Ok Down) tablet = words "D" ++ (digit tablet ∷ [])
text_by (Err e) tablet = words "?" ++ (digit tablet ∷ [])

-- a byte that stands for no kind
text_of_none : (kind tablet : ℕ) → 7 ≤ kind → text_by (kind_of kind) tablet ≡ event_text kind tablet
unfolding event_text event_letter
text_of_none kind tablet h =
    rw (ne_eqb kind 1 (λ e. omega arith), ne_eqb kind 2 (λ e. omega arith), ne_eqb kind 3 (λ e. omega arith), ne_eqb kind 4 (λ e. omega arith), ne_eqb kind 5 (λ e. omega arith), ne_eqb kind 6 (λ e. omega arith))

text_of_kind : (kind tablet : ℕ) → text_by (kind_of kind) tablet ≡ event_text kind tablet
unfolding event_text event_letter
text_of_kind zero tablet = refl
text_of_kind (suc zero) tablet = refl
text_of_kind (suc (suc zero)) tablet = refl
text_of_kind (suc (suc (suc zero))) tablet = refl
text_of_kind (suc (suc (suc (suc zero)))) tablet = refl
text_of_kind (suc (suc (suc (suc (suc zero))))) tablet = refl
text_of_kind (suc (suc (suc (suc (suc (suc zero)))))) tablet = refl
text_of_kind (suc (suc (suc (suc (suc (suc (suc more))))))) tablet = text_of_none (suc (suc (suc (suc (suc (suc (suc more))))))) tablet (omega arith)

-- what is put for the kind that a byte stands for is the text of its event
pub event_by : {l m : Line} (kind tablet : ℕ) (k : Result Kind UnknownKind) → k ≡ kind_of kind → Puts (text_by k tablet) l m → Puts (event_text kind tablet) l m
event_by kind tablet k e p = puts_as (ap (λ z. text_by z tablet) e ∙ text_of_kind kind tablet) p

-- ---- one event after the other, each in a chunk of two bytes

pub later_text : List (List ℕ) → List ℕ
later_text [] = line_end
later_text (event ∷ rest) = words " " ++ (event_text (get_or event 0 0) (get_or event 1 0) ++ later_text rest)

later_in : (count : ℕ) (events : List ℕ) → count ≡ length events / 2 → later_text (first_chunks 2 count events) ≡ later_events events
unfolding later_text later_events
later_in zero [] h = refl
later_in zero (kind ∷ []) h = refl
later_in zero (kind ∷ tablet ∷ rest) h = absurd (omega arith)
later_in (suc count) [] h = absurd (omega arith)
later_in (suc count) (kind ∷ []) h = absurd (omega arith)
later_in (suc count) (kind ∷ tablet ∷ rest) h =
    ap (λ (l : List ℕ). words " " ++ (event_text kind tablet ++ l)) (later_in count rest (omega arith))

-- the line, where the chunks are a first one and later ones, or none
pub some_events : (events first : List ℕ) (later : List (List ℕ)) → first_chunks 2 (length events / 2) events ≡ first ∷ later
    → event_text (get_or first 0 0) (get_or first 1 0) ++ later_text later ≡ events_text events
unfolding events_text
some_events [] first later e = cc
some_events (kind ∷ []) first later e = cc
some_events (kind ∷ tablet ∷ rest) first later e =
    let more : length (kind ∷ tablet ∷ rest) / 2 ≡ suc (length rest / 2) = omega arith in
    let split : (kind ∷ tablet ∷ []) ∷ first_chunks 2 (length rest / 2) rest ≡ first ∷ later = rw more at e in
    let front : kind ∷ tablet ∷ [] ≡ first = cc in
    let back : first_chunks 2 (length rest / 2) rest ≡ later = cc in
    rw (← front, ← back) (ap (λ (l : List ℕ). event_text kind tablet ++ l) (later_in (length rest / 2) rest refl))

pub no_events : (events : List ℕ) → length events / 2 ≡ 0 → line_end ≡ events_text events
unfolding events_text
no_events [] h = refl
no_events (kind ∷ []) h = refl
no_events (kind ∷ tablet ∷ rest) h = absurd (omega arith)

-- what is left from a chunk on: that one, and then the next ones
pub next_event : (later : List (List ℕ)) (i : ℕ) → i < length later
    → later_text (drop i later) ≡ words " " ++ (event_text (get_or (get_or later i []) 0 0) (get_or (get_or later i []) 1 0) ++ later_text (drop (i + 1) later))
unfolding later_text
next_event later i h = rw (add-one, drop-cons later i [] h)

pub none_left : (later : List (List ℕ)) (i : ℕ) → length later ≤ i → later_text (drop i later) ≡ line_end
unfolding later_text
none_left [] zero h = refl
none_left [] (suc i) h = refl
none_left (event ∷ rest) zero h = absurd (omega arith)
none_left (event ∷ rest) (suc i) h = none_left rest i (omega arith)
