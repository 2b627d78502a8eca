-- `tracefile::asked_body` meets its contract: where there is no body the part is empty.
-- Assumes nothing.
use mathlib.Core.List.{List, []}
use mathlib.Core.Path.{◌≡◌, refl, sym, ◌∙◌}
use Prim.Native.Nat.{ℕ}
use Rattle.std.proofs.Common.{Result, Ok, Err, Bor, IfOk, IfErr}
use Rattle.std.specs.Result.{result_unwrap_or}
use Rattle.tracefile.specs.Refusals.{accepted, refusal}
use Rattle.tracefile.specs.declared.Refusal.{Refusal}
use Rattle.tracefile.specs.File.{check_trace, asked}
use Rattle.tracefile.proofs.Good.{asked_nothing}
use Rattle.tracefile.proofs.asked_body.Goals as goal

-- the body, or the empty part
body_or_empty : (f : List ℕ) (t : ℕ) (r : Result (Bor (List ℕ)) Refusal) (empty : Bor (List ℕ)) → empty.now ≡ []
    → IfOk r (λ body. (check_trace f t ≡ accepted) × (body.now ≡ asked f t)) → IfErr r (λ e. refusal e ≡ check_trace f t)
    → (result_unwrap_or r empty).now ≡ asked f t
body_or_empty f t (Ok body) empty e h g = h.1
body_or_empty f t (Err r) empty e h g = e ∙ sym (asked_nothing f t r g)

pub returns : goal.returns
returns c = rw c.unwrap_or.ensures (body_or_empty _ _ c.body_of.result _ refl c.body_of.ensures.body c.body_of.ensures.refusal)
