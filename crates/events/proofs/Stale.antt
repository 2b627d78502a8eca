-- Marking the other tablets stale one after the other: what holds of the marks on the way, and that in the end only the
-- kept one is left.
-- Assumes nothing.
use mathlib.Core.Bool.{false}
use mathlib.Core.Path.{◌≡◌, refl, sym, ap, ◌∙◌}
use Prim.Native.Nat.{ℕ, ◌+◌, ◌^◌, ◌≤◌, ◌<◌}
use native.Mathlib.Decide.{ℕ_discrete}
use native.Mathlib.Omega.{arith}
use Rattle.marks.specs.Sets.{has, remove, only}
use Rattle.marks.proofs.Laws.{has_remove_same, has_remove_other, has_only_same, has_only_other, remove_below, only_below, same_set}

-- of the set, all below next are gone but the kept one
pub record Staled (set keep left next : ℕ) : Type 0 where
  pub below : left < 2 ^ 8
  pub few : next ≤ 8
  pub gone : (i : ℕ) → i < next → (i ≡ keep → ⊥) → has left i ≡ false
  pub kept : has left keep ≡ has set keep
  pub later : (i : ℕ) → next ≤ i → has left i ≡ has set i

pub staled_none : (set keep : ℕ) → set < 2 ^ 8 → Staled set keep set 0
staled_none set keep h =
    record { below = h; few = omega arith; gone = λ i l e. absurd (omega arith); kept = refl; later = λ i l. refl }

pub staled_more : (set keep left next : ℕ) → next < 8 → (next ≡ keep → ⊥) → Staled set keep left next → Staled set keep (remove 8 left next) (next + 1)
staled_more set keep left next h ne r =
    record {
      below = remove_below 8 left next r.below;
      few = omega arith;
      gone =
          λ i l e. elim (ℕ_discrete i next) [
            | yes q ↦ ap (has (remove 8 left next)) q ∙ has_remove_same 8 left next h
            | no q ↦ has_remove_other 8 left next i q ∙ r.gone i (omega arith) e
          ];
      kept = has_remove_other 8 left next keep (λ q. ne (sym q)) ∙ r.kept;
      later = λ i l. has_remove_other 8 left next i (λ q. omega arith) ∙ r.later i (omega arith);
    }

pub staled_kept : (set keep left next : ℕ) → next < 8 → next ≡ keep → Staled set keep left next → Staled set keep left (next + 1)
staled_kept set keep left next h q r =
    record {
      below = r.below;
      few = omega arith;
      gone = λ i l e. r.gone i (elim (ℕ_discrete i next) [ yes p ↦ absurd (e (p ∙ q)) | no p ↦ omega arith ]) e;
      kept = r.kept;
      later = λ i l. r.later i (omega arith);
    }

pub staled_all : (set keep left next : ℕ) → set < 2 ^ 8 → 8 ≤ next → Staled set keep left next → left ≡ only set keep
staled_all set keep left next b h r =
    same_set 8 left (only set keep) r.below (only_below 8 set keep b)
    (λ i l. elim (ℕ_discrete i keep) [
      | yes q ↦ ap (has left) q ∙ r.kept ∙ sym (has_only_same set keep) ∙ ap (has (only set keep)) (sym q)
      | no q ↦ r.gone i (omega arith) q ∙ sym (has_only_other set keep i q)
    ])
