-- For proofs that walk the code of a reader by hand; there is none now, since the check proves the reader by itself. Its type
-- at a lifetime, what it owns, and what it lends to a function on a slice and a number. A reader is plain to copy, so it is
-- there twice: once to be taken apart, and once whole, for the exit.
-- Assumes nothing.
use mathlib.Core.Path.{◌≡◌, refl}
use Prim.Native.Nat.{◌<◌, ◌^◌}
use mathlib.Core.List.{List, [], ◌∷◌}
use lib.ListN.{length}
use seplogic.Ra.Ura.{Ura}
use mir.Syntax.{named, w64}
use mir.Val.{Val, vint}
use base.Logic.{SProp, ent, sep}
use base.Fml.{Lft, Share, Fml, ftrue, flft}
use types.Logic.{Logic, sem}
use contract.Lifetimes.{Lfts}
use types.Kit.{‵, raw, ◌⊛◌, given, ⋆, ◌$◌, ◌∵◌, !, qed, move, drop, use1, use2, split, learn, fsplit, fjoin, frame, done}
use denote.RattleType.{RattleType, owns}
use denote.Laws.{Is}
use denote.Plain.{uint_Makes}
use denote.Builtin.{u8, usize}
use denote.Signature.{named_lft}
use denote.Slice.{slice_val, ShrSlice}
use denote.Steps.{owned, nothing}
use denote.Struct.Declared.{Declared}
use denote.Struct.Laws as LL
use denote.Struct.Rest.{all_own, field_own, rest, own_open, own_out}
use denote.Struct.Values.{Values}
use Rattle.listing.specs.declared.Listing.{Listing}
use Rattle.listing.specs.contracts.Listing as T
use Rattle.listing.proofs.Listing.TheLaws as T'

-- the type of a reader, its description and its laws, over a signature's one lifetime
abbrev pub row : Lfts 1 → RattleType
row κs = T.the_row (named_lft 1 0 tt κs)

abbrev pub kind : Lfts 1 → Declared
kind κs = T.the_type (named_lft 1 0 tt κs)

abbrev pub laws : (κs : Lfts 1) → LL.Laws (kind κs)
laws κs = T'.the_laws (named_lft 1 0 tt κs)

module _ {M : Type 1} {𝓤 : Ura M} (𝓛 : Logic 𝓤) (κ : Lft) (q : Share) (d : Listing) where
  -- the values of its fields, and its machine value
  abbrev pub fields : Values (kind (κ, tt)).parts
  fields = (d.body, (d.at, tt))

  abbrev pub held : List Val
  held = T'.lowered d ∷ []

  -- what it owns, and that twice
  abbrev pub Own : Fml
  Own = (row (κ, tt)).own_val d held

  pub twice : ent 𝓤 (sem 𝓛 Own) (sep 𝓤 (sem 𝓛 Own) (sem 𝓛 Own))
  twice = (LL.copy (kind (κ, tt)) (T'.the_copy (named_lft 1 0 tt (κ, tt))) 𝓛).twice d held

  -- what a function on the slice and the number is passed
  abbrev pub passed : List Val × (List Val × Unit {0})
  passed = (slice_val d.body.ref_ptr (length d.body.now) ∷ [], (vint w64 d.at ∷ [], tt))

  -- the reader meets what such a function asks, and is kept whole
  pub lent : (Asks : SProp 𝓤)
      → ent 𝓤 (⋆ 𝓛 ((‵ (flft κ q) ⊛ ‵ ftrue) ∷ ‵ (owns (ShrSlice (named 0) κ u8 ∷ usize ∷ []) (d.body, (d.at, tt)) passed) ∷ [])) Asks
      → d.at < 2 ^ 64
      → ent 𝓤 (⋆ 𝓛 ((‵ (flft κ q) ⊛ ‵ ftrue) ∷ ‵ (owns (row (κ, tt) ∷ []) (d, tt) (held, tt)) ∷ [])) (sep 𝓤 Asks (sem 𝓛 Own))
  lent Asks asked fits =
      qed 𝓛 ((‵ (flft κ q) ⊛ ‵ ftrue) ∷ ‵ (owns (row (κ, tt) ∷ []) (d, tt) (held, tt)) ∷ []) ∵
      move ! (1 ∷ []) $ fsplit ! $ move ! (1 ∷ []) $ drop ! $ use1 𝓛 (‵ Own ⊛ ‵ Own) twice $ split ! $
      use1 𝓛 (given (held ≡ held) (‵ (all_own (kind (κ, tt)).parts (laws (κ, tt)) fields))) (own_open 𝓛 (kind (κ, tt)) (laws (κ, tt)) fields (T'.lowered d)) $ learn ! (λ _.
      use1 𝓛 (‵ (field_own (kind (κ, tt)).parts (laws (κ, tt)) 0 d.body) ⊛ ‵ (rest (kind (κ, tt)).parts (laws (κ, tt)) 0 fields)) (own_out 𝓛 (kind (κ, tt)).parts (laws (κ, tt)) 0 fields) $ split ! $
      -- the body's part is taken, and the number's facts are made anew beside it
      move ! (1 ∷ []) $ drop ! $ nothing ! $ owned ! usize (Is usize) (uint_Makes 𝓛 w64) d.at _ (refl, fits) $ fjoin ! $ move ! (1 ∷ 0 ∷ []) $ fjoin ! $
      -- [the body and the number; the whole reader; the lifetime's token]
      move ! (2 ∷ 0 ∷ []) $ use2 𝓛 (raw Asks) asked $ frame ! $ done !)
