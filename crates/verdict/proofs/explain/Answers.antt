-- `verdict::explain` meets its contract: a refusal, or what the walk of the asked body says.
-- Assumes nothing.
use mathlib.Core.Path.{◌≡◌, refl, ap, ◌∙◌}
use Rattle.std.proofs.Common.{Result, Err}
use Rattle.std.proofs.lemmas.Result.{err_from_is_err_and}
use Rattle.walk.specs.declared.Walked.{Walked}
use Rattle.walk.specs.declared.Stop.{Stop}
use Rattle.verdict.specs.Judged.{told}
use Rattle.verdict.proofs.Calls.{Says, say, first_end_is, none_in_is, file_refused, walk_said, events_small, second_byte}
use Rattle.verdict.proofs.explain.Goals as goal
use Rattle.verdict.proofs.explain.Goals.{After-walk}

pub returns-in_err-body : goal.returns-in_err-body
returns-in_err-body c =
    let both = file_refused _ _ c.args.budget c.args.room.now _ c.in_err-body.ensures.refusal in
    let p = err_from_is_err_and c.from_residual.result c.from_residual.ensures.1 in
    record { result = ap told (p.1 ∙ ap Err p.2) ∙ both.result; room = both.room }

pub bounds-file-1 : goal.bounds-file-1
bounds-file-1 c = second_byte _ c.args.trace c.in_ok-body.ensures.body.0

pub overflow_cast-result : goal.overflow_cast-result
overflow_cast-result c = record { fits = events_small _ _ _ _ _ _ _ _ _ c.in_ok-body.ensures.body.0 refl c.in_ok-body.ensures.body.1 c.walk.ensures.result (c.in-Ok.is ∙ first_end_is _ _ c.in-Some.is) }

-- whatever the walk answers is said
as_walked : (c : After-walk) (known : Result Walked Stop) → c.walk.result ≡ known
    → Says c.args.file.now c.args.trace c.args.budget c.args.room.now (say c.args.budget known) c.walk.new.room
as_walked c known = walk_said _ _ _ _ _ _ _ _ _ c.in_ok-body.ensures.body.0 refl c.in_ok-body.ensures.body.1 c.walk.ensures.result c.walk.ensures.room

pub returns-in-Some : goal.returns-in-Some
returns-in-Some c =
    as_walked (goal.at.returns-in-Some c).After-walk _ (c.in-Ok.is ∙ first_end_is _ _ c.in-Some.is)

pub returns-in-None : goal.returns-in-None
returns-in-None c =
    as_walked (goal.at.returns-in-None c).After-walk _ (c.in-Ok.is ∙ none_in_is _ c.in-None.is)

pub returns-in-Err-Spent : goal.returns-in-Err-Spent
returns-in-Err-Spent c =
    as_walked (goal.at.returns-in-Err-Spent c).After-walk _ (c.in-Err-Spent.is ∙ ap Err c.in-Err-Spent.field-0-is)

pub returns-in-Err-Deep : goal.returns-in-Err-Deep
returns-in-Err-Deep c =
    as_walked (goal.at.returns-in-Err-Deep c).After-walk _ (c.in-Err-Deep.is ∙ ap Err c.in-Err-Deep.field-0-is)

pub returns-in-Err-NoRoom : goal.returns-in-Err-NoRoom
returns-in-Err-NoRoom c =
    as_walked (goal.at.returns-in-Err-NoRoom c).After-walk _ (c.in-Err-NoRoom.is ∙ ap Err c.in-Err-NoRoom.field-0-is)
