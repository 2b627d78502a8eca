-- What one read after another brings.
-- Assumes nothing.
use mathlib.Core.List.{List, ◌++◌}
use mathlib.Core.Path.{◌≡◌, sym, ap, ◌∙◌}
use Prim.Native.Nat.{ℕ, ◌+◌, ◌≤◌}
use lib.ListN.{length, take}
use lib.Seq.{length-take-le, take-append-add, take-append-le}

-- the bytes that come are put behind those that had come
pub put_behind : (room part rest : List ℕ) (done came : ℕ) → done ≤ length room → came ≤ length part
    → take done room ++ take came part ≡ take (done + came) (take done room ++ (part ++ rest))
put_behind room part rest done came within fits =
    sym (ap (λ (n : ℕ). take (n + came) (take done room ++ (part ++ rest))) (sym (length-take-le done room within))
    ∙ take-append-add (take done room) (part ++ rest) came ∙ ap (λ (l : List ℕ). take done room ++ l) (take-append-le came part rest fits))
