-- Any two results that the contract of a public function of this crate allows for one input are equal: each contract is
-- one equation of the result, or of its number, with a definition, and a word is known by its number.
-- Assumes nothing.
use mathlib.Core.Path.{◌≡◌, sym, ◌∙◌}
use mir.Syntax.{Dict}
use denote.RattleType.{RattleType}
use denote.Param.Laws.{Laws, IsCopy}
use denote.Struct.Field.{u8-field, u64-field}
use Rattle.std.specs.declared.clone.Clone as clone
use Rattle.marks.specs.declared.Word as word
use Rattle.marks.specs.contracts.U8Word.TheImpl as byte
use Rattle.marks.specs.contracts.U64Word.TheImpl as number
use Rattle.marks.proofs.U8Word.wide.Kinds as wide8_kinds
use Rattle.marks.proofs.U8Word.wide.Reads as wide8_reads
use Rattle.marks.proofs.U8Word.narrow.Kinds as narrow8_kinds
use Rattle.marks.proofs.U8Word.narrow.Reads as narrow8_reads
use Rattle.marks.proofs.U64Word.wide.Kinds as wide64_kinds
use Rattle.marks.proofs.U64Word.wide.Reads as wide64_reads
use Rattle.marks.proofs.U64Word.narrow.Kinds as narrow64_kinds
use Rattle.marks.proofs.U64Word.narrow.Reads as narrow64_reads
use Rattle.marks.proofs.has.Kinds as has_kinds
use Rattle.marks.proofs.has.Reads as has_reads
use Rattle.marks.proofs.add.Kinds as add_kinds
use Rattle.marks.proofs.add.Reads as add_reads
use Rattle.marks.proofs.remove.Kinds as remove_kinds
use Rattle.marks.proofs.remove.Reads as remove_reads
use Rattle.marks.proofs.lowest.Kinds as lowest_kinds
use Rattle.marks.proofs.lowest.Reads as lowest_reads
use Rattle.marks.proofs.Single.{Single}

wide8 : Single 0 wide8_kinds.ps wide8_kinds.r wide8_reads.Learnt
wide8 κs a x y e f p q = p.0 ∙ sym q.0

narrow8 : Single 0 narrow8_kinds.ps narrow8_kinds.r narrow8_reads.Learnt
narrow8 κs a x y e f p q = p ∙ sym q

wide64 : Single 0 wide64_kinds.ps wide64_kinds.r wide64_reads.Learnt
wide64 κs a x y e f p q = p.0 ∙ sym q.0

narrow64 : Single 0 narrow64_kinds.ps narrow64_kinds.r narrow64_reads.Learnt
narrow64 κs a x y e f p q = p ∙ sym q

-- at any word: its type, the members of its traits, and its law
module _ (T : RattleType) (l : Laws T) (c : IsCopy T) (w : word.Ghosts T.Denot) (d : Dict) (v : clone.Ghosts T.Denot) (k : Dict)
    (one_to_one : (a b : T.Denot) → w.number a ≡ w.number b → a ≡ b) where
  pub has : Single 1 (has_kinds.ps T l c) (has_kinds.r T l c) (has_reads.Learnt T l c w d v k)
  has κs a x y e f p q = p ∙ sym q

  pub add : Single 1 (add_kinds.ps T l c) (add_kinds.r T l c) (add_reads.Learnt T l c w d v k)
  add κs a x y e f p q = one_to_one x y (p ∙ sym q)

  pub remove : Single 1 (remove_kinds.ps T l c) (remove_kinds.r T l c) (remove_reads.Learnt T l c w d v k)
  remove κs a x y e f p q = one_to_one x y (p ∙ sym q)

  pub lowest : Single 1 (lowest_kinds.ps T l c) (lowest_kinds.r T l c) (lowest_reads.Learnt T l c w d v k)
  lowest κs a x y e f p q = p ∙ sym q

-- at a byte
module _ (l : Laws u8-field.row) (c : IsCopy u8-field.row) (d : Dict) (v : clone.Ghosts u8-field.row.Denot) (k : Dict) where
  has8 : Single 1 (has_kinds.ps u8-field.row l c) (has_kinds.r u8-field.row l c) (has_reads.Learnt u8-field.row l c byte.ghosts d v k)
  has8 = has u8-field.row l c byte.ghosts d v k (λ a b same. same)

  add8 : Single 1 (add_kinds.ps u8-field.row l c) (add_kinds.r u8-field.row l c) (add_reads.Learnt u8-field.row l c byte.ghosts d v k)
  add8 = add u8-field.row l c byte.ghosts d v k (λ a b same. same)

  remove8 : Single 1 (remove_kinds.ps u8-field.row l c) (remove_kinds.r u8-field.row l c) (remove_reads.Learnt u8-field.row l c byte.ghosts d v k)
  remove8 = remove u8-field.row l c byte.ghosts d v k (λ a b same. same)

  lowest8 : Single 1 (lowest_kinds.ps u8-field.row l c) (lowest_kinds.r u8-field.row l c) (lowest_reads.Learnt u8-field.row l c byte.ghosts d v k)
  lowest8 = lowest u8-field.row l c byte.ghosts d v k (λ a b same. same)

-- at a number of 64 bits
module _ (l : Laws u64-field.row) (c : IsCopy u64-field.row) (d : Dict) (v : clone.Ghosts u64-field.row.Denot) (k : Dict) where
  has64 : Single 1 (has_kinds.ps u64-field.row l c) (has_kinds.r u64-field.row l c) (has_reads.Learnt u64-field.row l c number.ghosts d v k)
  has64 = has u64-field.row l c number.ghosts d v k (λ a b same. same)

  add64 : Single 1 (add_kinds.ps u64-field.row l c) (add_kinds.r u64-field.row l c) (add_reads.Learnt u64-field.row l c number.ghosts d v k)
  add64 = add u64-field.row l c number.ghosts d v k (λ a b same. same)

  remove64 : Single 1 (remove_kinds.ps u64-field.row l c) (remove_kinds.r u64-field.row l c) (remove_reads.Learnt u64-field.row l c number.ghosts d v k)
  remove64 = remove u64-field.row l c number.ghosts d v k (λ a b same. same)

  lowest64 : Single 1 (lowest_kinds.ps u64-field.row l c) (lowest_kinds.r u64-field.row l c) (lowest_reads.Learnt u64-field.row l c number.ghosts d v k)
  lowest64 = lowest u64-field.row l c number.ghosts d v k (λ a b same. same)
