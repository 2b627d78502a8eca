-- Document 01, 'Evenings worked by hand': cases A to K as one table, and the rows of D and E at other budgets.
use Rattle.std.specs.Prelude.{ℕ, Bool, true, false, cond, List, [], ◌∷◌, map, ◌≡◌, length}
use Rattle.model.specs.Walk.{Outcome, explained, unexplained, undecided, too_deep}
use Rattle.model.specs.Model.{outcome}
use Rattle.model.specs.declared.Observation.{Observation}
use Rattle.model.specs.declared.Observation.TheVariants.{Read, Write, Stabilize, Failed}
use Rattle.model.specs.declared.Event.{Event}
use Rattle.model.specs.declared.Event.TheVariants.{Observed, Up, Down}

-- the table's notation
abbrev R : ℕ → ℕ → Observation
R t x = Read t x

abbrev W : ℕ → ℕ → ℕ → Observation
W t y x = Write t y x

-- a set is written as its number: {2} is 4
abbrev S : ℕ → ℕ → Observation
S x c = Stabilize x c

abbrev SF : Observation
SF = Failed

-- what a row says: points and number of events, or points and the events themselves
pub data Answer : Type 0 where
  explained_in : ℕ → ℕ → Answer
  explained_by : ℕ → List Event → Answer
  unexplained_in : ℕ → Answer
  undecided_at : ℕ → Answer
  refused_10 : Answer

pub record Evening : Type 0 where
  pub tablets : ℕ
  pub observed : List Observation
  pub budget : ℕ
  pub result : Answer

abbrev evening : ℕ → List Observation → ℕ → Answer → Evening
evening n obs b r = record { tablets = n; observed = obs; budget = b; result = r }

-- the budget of the program
abbrev large : ℕ
large = 1000000

-- one line a case
abbrev pub table : List Evening
table =
    evening 2 [] large (explained_in 1 0)
    ∷ evening 1 (R 1 0 ∷ []) large (explained_in 2 1)
    ∷ evening 1 (R 1 1 ∷ []) large (unexplained_in 1)
    ∷ evening 1 (W 1 1 0 ∷ S 1 0 ∷ []) large (explained_by 4 (Observed (W 1 1 0) ∷ Up 1 ∷ Observed (S 1 0) ∷ []))
    ∷ evening 1 (SF ∷ []) large (unexplained_in 1)
    ∷ evening 2 (W 1 1 0 ∷ W 2 2 1 ∷ R 1 2 ∷ W 2 3 2 ∷ S 3 0 ∷ []) large (explained_in 12 11)
    ∷ evening 2 (W 2 2 0 ∷ W 1 1 2 ∷ R 1 1 ∷ SF ∷ []) large (unexplained_in 13)
    ∷ evening 1 (W 1 2 0 ∷ W 1 0 2 ∷ R 1 2 ∷ []) large (unexplained_in 7)
    ∷ evening 2 (W 1 1 0 ∷ W 2 2 0 ∷ S 1 4 ∷ []) large
    (explained_by 7 (Observed (W 1 1 0) ∷ Observed (W 2 2 0) ∷ Up 1 ∷ Up 2 ∷ Down 2 ∷ Observed (S 1 4) ∷ []))
    ∷ evening 2 (W 1 1 0 ∷ W 2 1 0 ∷ S 1 0 ∷ []) large (explained_in 7 6)
    ∷ evening 2 (W 1 1 0 ∷ R 2 1 ∷ W 2 2 1 ∷ W 1 0 1 ∷ S 0 4 ∷ []) large (explained_in 11 10)
    ∷ evening 1 (W 1 1 0 ∷ S 1 0 ∷ []) 3 (undecided_at 3)
    ∷ evening 1 (W 1 1 0 ∷ S 1 0 ∷ []) 4 (explained_in 4 3)
    ∷ evening 1 (SF ∷ []) 0 (undecided_at 0)
    ∷ evening 1 (SF ∷ []) 1 (unexplained_in 1)
    ∷ []

-- whether a row gives the events themselves
abbrev gives_events : Answer → Bool
gives_events (explained_in k m) = false
gives_events (explained_by k es) = true
gives_events (unexplained_in k) = false
gives_events (undecided_at b) = false
gives_events refused_10 = false

abbrev told : Bool → Outcome Event → Answer
told events (explained k es) = cond events (explained_by k es) (explained_in k (length es))
told events (unexplained k) = unexplained_in k
told events (undecided b) = undecided_at b
told events too_deep = refused_10

-- what the definitions say of a row, told as the row tells it
unfoldable pub worked_out : Evening → Answer
unfolding outcome
worked_out e = told (gives_events e.result) (outcome e.tablets e.observed e.budget)

-- the claim: the definitions say of every row what was worked out by hand
abbrev pub TableHolds : Type 0
TableHolds = map worked_out table ≡ map (λ (e : Evening). e.result) table
