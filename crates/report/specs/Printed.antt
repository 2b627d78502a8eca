-- Document 01, 'Evenings worked by hand': what the program prints for a file, in bytes.
use Rattle.std.specs.Prelude.{ℕ, zero, suc, ◌+◌, List, [], ◌++◌}
use Rattle.model.specs.Walk.{Outcome, explained, unexplained, undecided, too_deep}
use Rattle.model.specs.Model.{outcome}
use Rattle.model.specs.declared.Event.{Event}
use Rattle.tracefile.specs.Refusals as R
use Rattle.tracefile.specs.File.{tablets_in, bodies_in, check}
use Rattle.walk.specs.Steps.{laid}
use Rattle.verdict.specs.Judged.{evening, said}
use Rattle.lines.specs.Text.{answer_text, events_text, refusal_text}

-- the program's budget of points
abbrev pub budget : ℕ
budget = 1000000

-- for an explained trace a second line has the events
unfoldable pub explanation_text : Outcome Event → List ℕ
unfolding laid
explanation_text (explained points events) = events_text (laid events)
explanation_text (unexplained points) = []
explanation_text (undecided points) = []
explanation_text too_deep = []

-- a trace of this outcome: the line of what is said of it, and its events
abbrev pub outcome_text : ℕ → Outcome Event → List ℕ
outcome_text t o = answer_text t (said o) ++ explanation_text o

-- trace t of a file
unfoldable pub trace_text : List ℕ → ℕ → List ℕ
unfolding explanation_text
trace_text f t = outcome_text t (outcome (tablets_in f) (evening f t) budget)

-- the traces from t on, of which left are left
unfoldable pub traces_text : List ℕ → ℕ → ℕ → List ℕ
unfolding trace_text
traces_text f zero t = []
traces_text f (suc left) t = trace_text f t ++ traces_text f left (t + 1)

-- a refused file has a single line
unfoldable pub file_text : R.Answer → List ℕ → List ℕ
file_text R.accepted traces = traces
file_text (R.refused number place) traces = refusal_text number place

unfoldable pub printed : List ℕ → List ℕ
unfolding traces_text file_text
printed f = file_text (check f) (traces_text f (bodies_in f) 1)
