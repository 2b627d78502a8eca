-- The points in preorder, counted, come to what the computed walk says.
-- Assumes nothing.
use mathlib.Core.Bool.{Bool, true, false, cond}
use mathlib.Core.List.{List, [], ◌∷◌, ◌++◌, map, Memᴰ}
use mathlib.Core.Path.{◌≡◌, refl, sym, ap, ap₂, ◌∙◌}
use Prim.Native.Nat.{ℕ, zero, suc, ◌+◌}
use native.Mathlib.Nat.{add-zero, add_assoc, zero-add, suc-add, add-suc}
use lib.Dec.{ltb, eqb, leb-suc-suc, leb-suc-zero, eqb-suc-suc, eqb-zero-suc}
use lib.ListN.{length, length-append}
use Rattle.model.specs.Walk.{Service, Lawful, Choice, trace, children, points, below, counted, ordered, Walked, found, endless, stopped, after, or_else, tried, visited, walked}
use Rattle.model.proofs.Children.{child}

eqb_add : (k m n : ℕ) → eqb (k + m) (k + n) ≡ eqb m n
eqb_add zero m n = ap₂ eqb (zero-add m) (zero-add n)
eqb_add (suc k) m n = ap₂ eqb (suc-add k m) (suc-add k n) ∙ eqb-suc-suc (k + m) (k + n) ∙ eqb_add k m n

module _ {S O E : Type 0} (𝓢 : Service S O E) where
  -- an event in front of what was found
  front : E → Walked E → Walked E
  front e (found k es) = found k (e ∷ es)
  front e (endless k) = endless k
  front e (stopped k) = stopped k

  -- the count goes on where the first part of the points has no end and no stop
  on : Walked E → (ℕ → Walked E) → Walked E
  on (found k es) f = found k es
  on (endless k) f = f k
  on (stopped k) f = stopped k

  after_zero : (w : Walked E) → after 𝓢 0 w ≡ w
  unfolding after
  after_zero (found k es) = ap (λ (i : ℕ). found i es) (zero-add k)
  after_zero (endless k) = ap (λ (i : ℕ). endless i) (zero-add k)
  after_zero (stopped k) = ap (λ (i : ℕ). stopped i) (zero-add k)

  after_after : (j k : ℕ) (w : Walked E) → after 𝓢 j (after 𝓢 k w) ≡ after 𝓢 (j + k) w
  unfolding after
  after_after j k (found i es) = ap (λ (x : ℕ). found x es) (sym (add_assoc j k i))
  after_after j k (endless i) = ap (λ (x : ℕ). endless x) (sym (add_assoc j k i))
  after_after j k (stopped i) = ap (λ (x : ℕ). stopped x) (sym (add_assoc j k i))

  after_front : (j : ℕ) (e : E) (w : Walked E) → front e (after 𝓢 j w) ≡ after 𝓢 j (front e w)
  unfolding after front
  after_front j e (found i es) = refl
  after_front j e (endless i) = refl
  after_front j e (stopped i) = refl

  counted_append : (d : ℕ) (obs : List O) (k : ℕ) (ps qs : List (List E))
      → counted 𝓢 d obs k (ps ++ qs) ≡ on (counted 𝓢 d obs k ps) (λ j. counted 𝓢 d obs j qs)
  unfolding counted on
  counted_append d obs k [] qs = refl
  counted_append d obs k (p ∷ ps) qs =
      go (ltb d (length p)) (eqb (length (trace 𝓢 p)) (length obs)) (counted_append d obs (suc k) ps qs)
    where
      go : (a b : Bool) → counted 𝓢 d obs (suc k) (ps ++ qs) ≡ on (counted 𝓢 d obs (suc k) ps) (λ j. counted 𝓢 d obs j qs)
          → cond a (stopped k) (cond b (found (suc k) p) (counted 𝓢 d obs (suc k) (ps ++ qs)))
          ≡ on (cond a (stopped k) (cond b (found (suc k) p) (counted 𝓢 d obs (suc k) ps))) (λ j. counted 𝓢 d obs j qs)
      go true b h = refl
      go false true h = refl
      go false false h = h

  counted_after : (d : ℕ) (obs : List O) (k : ℕ) (ps : List (List E)) → counted 𝓢 d obs k ps ≡ after 𝓢 k (counted 𝓢 d obs 0 ps)
  unfolding counted after
  counted_after d obs k [] = ap (λ (i : ℕ). endless i) (sym (add-zero k))
  counted_after d obs k (p ∷ ps) =
      go (ltb d (length p)) (eqb (length (trace 𝓢 p)) (length obs)) (counted_after d obs (suc k) ps) (counted_after d obs 1 ps)
    where
      go : (a b : Bool) → counted 𝓢 d obs (suc k) ps ≡ after 𝓢 (suc k) (counted 𝓢 d obs 0 ps) → counted 𝓢 d obs 1 ps ≡ after 𝓢 1 (counted 𝓢 d obs 0 ps)
          → cond a (stopped k) (cond b (found (suc k) p) (counted 𝓢 d obs (suc k) ps))
          ≡ after 𝓢 k (cond a (stopped 0) (cond b (found 1 p) (counted 𝓢 d obs 1 ps)))
      go true b h g = ap (λ (i : ℕ). stopped i) (sym (add-zero k))
      go false true h g = ap (λ (i : ℕ). found i p) (sym (add-suc k 0 ∙ ap suc (add-zero k)))
      go false false h g =
          h ∙ ap (λ (i : ℕ). after 𝓢 i (counted 𝓢 d obs 0 ps)) (sym (add-suc k 0 ∙ ap suc (add-zero k))) ∙ sym (after_after k 1 (counted 𝓢 d obs 0 ps)) ∙ ap (after 𝓢 k) (sym g)

  -- the points behind an event that uses the front of the trace are counted as those of the child
  counted_map : (d : ℕ) (obs left : List O) (e : E) → 𝓢.shown e ++ left ≡ obs → (k : ℕ) (ps : List (List E))
      → counted 𝓢 (suc d) obs k (map (λ p. e ∷ p) ps) ≡ front e (counted 𝓢 d left k ps)
  unfolding counted front trace
  counted_map d obs left e u k [] = refl
  counted_map d obs left e u k (p ∷ ps) =
      ap₂ (λ (a b : Bool). cond a (stopped k) (cond b (found (suc k) (e ∷ p)) (counted 𝓢 (suc d) obs (suc k) (map (λ x. e ∷ x) ps))))
      (leb-suc-suc (suc d) (length p))
      (ap₂ eqb (length-append (𝓢.shown e) (trace 𝓢 p)) (ap length (sym u) ∙ length-append (𝓢.shown e) left) ∙ eqb_add (length (𝓢.shown e)) (length (trace 𝓢 p)) (length left))
      ∙ go (ltb d (length p)) (eqb (length (trace 𝓢 p)) (length left)) (counted_map d obs left e u (suc k) ps)
    where
      go : (a b : Bool) → counted 𝓢 (suc d) obs (suc k) (map (λ x. e ∷ x) ps) ≡ front e (counted 𝓢 d left (suc k) ps)
          → cond a (stopped k) (cond b (found (suc k) (e ∷ p)) (counted 𝓢 (suc d) obs (suc k) (map (λ x. e ∷ x) ps)))
          ≡ front e (cond a (stopped k) (cond b (found (suc k) p) (counted 𝓢 d left (suc k) ps)))
      go true b h = refl
      go false true h = refl
      go false false h = h

  -- the points below a point, counted, come to what trying its children comes to
  counted_below : (d : ℕ) (obs : List O) (g : Choice O E → List (List E)) (f : Choice O E → Walked E) (cs : List (Choice O E))
      → ((c : Choice O E) → Memᴰ c cs → (j : ℕ) → counted 𝓢 d obs j (map (λ p. c.event ∷ p) (g c)) ≡ after 𝓢 j (front c.event (f c)))
      → (k : ℕ) → counted 𝓢 d obs k (below 𝓢 g cs) ≡ after 𝓢 k (tried 𝓢 f cs)
  unfolding counted below tried after on front
  counted_below d obs g f [] each k = ap (λ (i : ℕ). endless i) (sym (add-zero k))
  counted_below d obs g f (c ∷ cs) each k =
      counted_append d obs k (map (λ p. c.event ∷ p) (g c)) (below 𝓢 g cs)
      ∙ ap (λ (w : Walked E). on w (λ j. counted 𝓢 d obs j (below 𝓢 g cs))) (each c (Memᴰ.head refl) k)
      ∙ go (f c) (λ j. counted_below d obs g f cs (λ x m. each x (Memᴰ.tail m)) j)
    where
      go : (w : Walked E) → ((j : ℕ) → counted 𝓢 d obs j (below 𝓢 g cs) ≡ after 𝓢 j (tried 𝓢 f cs))
          → on (after 𝓢 k (front c.event w)) (λ j. counted 𝓢 d obs j (below 𝓢 g cs)) ≡ after 𝓢 k (or_else 𝓢 c.event w (tried 𝓢 f cs))
      go (found j es) ih = refl
      go (endless j) ih = ih (k + j) ∙ sym (after_after k j (tried 𝓢 f cs))
      go (stopped j) ih = refl

  module _ (𝓛 : Lawful 𝓢) where
    visited_counted : (d : ℕ) (s : S) (obs : List O) (g : Choice O E → List (List E)) (f : Choice O E → Walked E)
        → ((c : Choice O E) → Memᴰ c (children 𝓢 s obs) → (j : ℕ) → counted 𝓢 d obs j (map (λ p. c.event ∷ p) (g c)) ≡ after 𝓢 j (front c.event (f c)))
        → counted 𝓢 d obs 0 ([] ∷ below 𝓢 g (children 𝓢 s obs)) ≡ visited 𝓢 f s obs
    unfolding counted visited
    visited_counted d s [] g f each = ap (λ (a : Bool). cond a (stopped 0) (found 1 [])) (leb-suc-zero d)
    visited_counted d s (o ∷ obs) g f each =
        ap₂ (λ (a b : Bool). cond a (stopped 0) (cond b (found 1 []) (counted 𝓢 d (o ∷ obs) 1 (below 𝓢 g (children 𝓢 s (o ∷ obs))))))
        (leb-suc-zero d) (eqb-zero-suc (length obs))
        ∙ counted_below d (o ∷ obs) g f (children 𝓢 s (o ∷ obs)) each 1

    -- document 01's words and the computed walk agree
    pub literal : (d : ℕ) (s : S) (obs : List O) → ordered 𝓢 d s obs ≡ walked 𝓢 d s obs
    unfolding ordered walked points after front
    literal zero s obs =
        visited_counted 0 s obs (λ c. [] ∷ []) (λ c. stopped 0) (λ c m j. ap (λ (i : ℕ). stopped i) (sym (add-zero j)))
    literal (suc d) s obs =
        visited_counted (suc d) s obs (λ c. points 𝓢 (suc d) (𝓢.then s c.event) c.left) (λ c. walked 𝓢 d (𝓢.then s c.event) c.left)
        (λ c m j.
        counted_map d obs c.left c.event (child 𝓢 𝓛 s obs c m).uses j (points 𝓢 (suc d) (𝓢.then s c.event) c.left)
        ∙ ap (front c.event) (counted_after d c.left j (points 𝓢 (suc d) (𝓢.then s c.event) c.left) ∙ ap (after 𝓢 j) (literal d (𝓢.then s c.event) c.left))
        ∙ after_front j c.event (walked 𝓢 d (𝓢.then s c.event) c.left))
