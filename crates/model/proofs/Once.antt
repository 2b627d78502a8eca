-- Lists in which each member stands once, put together and mapped.
-- Assumes nothing.
use mathlib.Core.List.Memᴰ
use mathlib.Core.List.{List, [], ◌∷◌, ◌++◌, map, Memᴰ}
use mathlib.Core.Logic.{⊎_elim}
use mathlib.Core.Path.{◌≡◌, refl, sym}
use Rattle.model.specs.Walk.{Once}

-- two such lists with no member in common, one after the other
pub once_append : {A : Type 0} (xs ys : List A) → Once xs → Once ys → ((x : A) → Memᴰ x xs → Memᴰ x ys → ⊥) → Once (xs ++ ys)
once_append [] ys h k apart = k
once_append (x ∷ xs) ys h k apart = (
  λ m. ⊎_elim h.0 (apart x (Memᴰ.head refl)) (Memᴰ.append_cases xs m),
  once_append xs ys h.1 k (λ y m. apart y (Memᴰ.tail m)),
)

-- such a list under a function that keeps members apart
pub once_map : {A B : Type 0} (f : A → B) → ((x y : A) → f x ≡ f y → x ≡ y) → (xs : List A) → Once xs → Once (map f xs)
once_map f apart [] h = tt
once_map f apart (x ∷ xs) h =
    (λ m. let r = Memᴰ.of_map f xs m in h.0 (Memᴰ.cast (apart x r.0 (sym r.2)) r.1), once_map f apart xs h.1)
