-- The synchroniser: document 01, 'The model'. The state, the observations and the events are the struct and the enums of
-- the source.
use Rattle.std.specs.Prelude.{ℕ, zero, suc, ◌+◌, ◌-◌, ◌*◌, min, Bool, true, false, cond, not, ◌&&◌, List, [], ◌∷◌, ◌++◌, map, leb, ltb, eqb, length, get_or, set, replicate}
use Rattle.marks.specs.Sets.{has, add, remove, only, full}
use Rattle.model.specs.Walk.{Service, Walked, Outcome, Explains, ordered, walked, cut}
use Rattle.model.specs.declared.State.{State}
use Rattle.model.specs.declared.Observation.{Observation}
use Rattle.model.specs.declared.Observation.TheVariants.{Read, Write, Stabilize, Failed}
use Rattle.model.specs.declared.Event.{Event}
use Rattle.model.specs.declared.Event.TheVariants.{Observed, Up, Down}

-- ---- the tablets

-- No more than 8 tablets are there, whatever n says.
unfoldable pub seats : ℕ → ℕ
seats n = min n 8

-- t is the number of a tablet
unfoldable pub is_tablet : ℕ → ℕ → Bool
unfolding seats
is_tablet n t = leb 1 t && leb t (seats n)

-- the tablets from 1 to k
unfoldable pub up_to : ℕ → List ℕ
up_to zero = []
up_to (suc k) = up_to k ++ (suc k ∷ [])

unfoldable pub tablets : ℕ → List ℕ
unfolding up_to seats
tablets n = up_to (seats n)

-- The bit and the place that stand for tablet t. Tablet 0 is not there: 255 is past every set and every row.
unfoldable pub seat : ℕ → ℕ
seat t = cond (eqb t 0) 255 (t - 1)

-- what stands for tablet t in a row of values, and in a set of marks
unfoldable pub value_at : List ℕ → ℕ → ℕ
unfolding seat
value_at row t = get_or row (seat t) 0

unfoldable pub mark_at : ℕ → ℕ → Bool
unfolding seat
mark_at set t = has set (seat t)

-- a tablet's local value, and whether it is fresh, and dirty; stale is not fresh, and clean is not dirty
abbrev pub local_of : State → ℕ → ℕ
local_of s t = value_at s.local t

abbrev pub fresh_at : State → ℕ → Bool
fresh_at s t = mark_at s.fresh t

abbrev pub dirty_at : State → ℕ → Bool
dirty_at s t = mark_at s.dirty t

-- every tablet is fresh and clean
unfoldable pub every : (ℕ → Bool) → List ℕ → Bool
every p [] = true
every p (t ∷ ts) = p t && every p ts

unfoldable pub fresh_and_clean : ℕ → ℕ → ℕ → Bool
unfolding mark_at
fresh_and_clean fresh dirty t = mark_at fresh t && not (mark_at dirty t)

unfoldable pub all_fresh_and_clean : ℕ → ℕ → ℕ → Bool
unfolding every fresh_and_clean tablets
all_fresh_and_clean n fresh dirty = every (fresh_and_clean fresh dirty) (tablets n)

-- ---- the first state: all values 0, conflict set empty, all tablets fresh and clean

unfoldable pub first_state : ℕ → State
unfolding seats
first_state n = record { conflicts = 0; local = replicate 8 0; server = 0; fresh = full (seats n); dirty = 0 }

-- ---- the table of events

-- Whether an event may happen. The last line of a WRITE's row says that there are 64 values: no sheet has another.
unfoldable pub may : ℕ → State → Event → Bool
unfolding is_tablet value_at mark_at all_fresh_and_clean
may n s (Observed (Read t x)) = is_tablet n t && eqb (local_of s t) x
may n s (Observed (Write t y x)) = is_tablet n t && (ltb y 64 && eqb (local_of s t) x)
may n s (Observed (Stabilize x c)) = eqb s.server x && (eqb s.conflicts c && all_fresh_and_clean n s.fresh s.dirty)
may n s (Observed Failed) = false
may n s (Up t) = is_tablet n t && dirty_at s t
may n s (Down t) = is_tablet n t && (not (fresh_at s t) && not (dirty_at s t))

-- UP at a fresh tablet whose local value differs from the server's: the server takes it
unfoldable pub wins : State → ℕ → Bool
unfolding value_at mark_at
wins s t = fresh_at s t && not (eqb (local_of s t) s.server)

-- UP at a stale tablet whose local value is neither the server's nor 0: it joins the conflict set
unfoldable pub joins : State → ℕ → Bool
unfolding value_at mark_at
joins s t = not (fresh_at s t) && (not (eqb (local_of s t) s.server) && not (eqb (local_of s t) 0))

-- What then holds.
unfoldable pub then : State → Event → State
unfolding seat value_at wins joins
then s (Observed (Read t x)) = s
then s (Observed (Write t y x)) =
    record {
      conflicts = s.conflicts;
      local = set s.local (seat t) y;
      server = s.server;
      fresh = s.fresh;
      dirty = add 8 s.dirty (seat t);
    }
then s (Observed (Stabilize x c)) = s
then s (Observed Failed) = s
then s (Up t) =
    record {
      conflicts = cond (joins s t) (add 64 s.conflicts (local_of s t)) s.conflicts;
      local = s.local;
      server = cond (wins s t) (local_of s t) s.server;
      fresh = cond (wins s t) (only s.fresh (seat t)) s.fresh;
      dirty = remove 8 s.dirty (seat t);
    }
then s (Down t) =
    record {
      conflicts = s.conflicts;
      local = set s.local (seat t) s.server;
      server = s.server;
      fresh = add 8 s.fresh (seat t);
      dirty = s.dirty;
    }

-- ---- the service: READ, WRITE and both kinds of STABILIZE are observed, UP and DOWN are hidden

unfoldable pub shown : Event → List Observation
shown (Observed o) = o ∷ []
shown (Up t) = []
shown (Down t) = []

-- the hidden events in the order in which they are tried
unfoldable pub hidden : ℕ → List Event
unfolding tablets
hidden n = map Up (tablets n) ++ map Down (tablets n)

unfoldable pub service : ℕ → Service State Observation Event
unfolding may then shown hidden
service n = record { may = may n; then = then; shown = shown; observed = Observed; hidden = hidden n }

-- An explanation of a trace on n tablets: a sequence of events, each possible in turn from the first state, which is the
-- trace once hidden events are struck out.
abbrev pub Explanation : ℕ → List Observation → List Event → Type 0
Explanation n obs es = Explains (service n) (first_state n) obs es

-- ---- the ordered walk of a trace

unfoldable pub writes : List Observation → ℕ
writes [] = 0
writes (Read t x ∷ obs) = writes obs
writes (Write t y x ∷ obs) = suc (writes obs)
writes (Stabilize x c ∷ obs) = writes obs
writes (Failed ∷ obs) = writes obs

-- the most events that a sequence should ever hold: T + n·W
unfoldable pub depth : ℕ → List Observation → ℕ
unfolding writes
depth n obs = length obs + n * writes obs

-- the whole walk, in document 01's words and as it is computed
unfoldable pub ordered_walk : ℕ → List Observation → Walked Event
unfolding ordered service first_state depth
ordered_walk n obs = ordered (service n) (depth n obs) (first_state n) obs

unfoldable pub walk : ℕ → List Observation → Walked Event
unfolding walked service first_state depth
walk n obs = walked (service n) (depth n obs) (first_state n) obs

-- what the walk says within a budget
unfoldable pub outcome : ℕ → List Observation → ℕ → Outcome Event
unfolding walk cut
outcome n obs budget = cut budget (walk n obs)
