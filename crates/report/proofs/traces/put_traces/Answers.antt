-- `report::traces::put_traces` meets its contract: the lines of one trace more, behind those that stand.
-- Assumes nothing.
use borrow.Author.Rules.{rules}
use native.Mathlib.Omega.{arith}
use Rattle.report.proofs.Listed.{one_more, all_put}
use Rattle.report.proofs.traces.put_traces.Goals as goal

pub loop-trace-preserved : goal.loop-trace-preserved
loop-trace-preserved c =
    one_more _ _ _ _ _ _ _ _ c.loop-trace.invariant (omega arith) (omega arith) c.put_trace-size.ensures.within (search rules) c.put_trace-size.ensures.text

pub returns : goal.returns
returns c = all_put _ _ _ _ _ _ c.loop-trace.invariant (omega arith)

pub returns-2 : goal.returns-2
returns-2 c =
    all_put _ _ _ _ _ _ (one_more _ _ _ _ _ _ _ _ c.loop-trace.invariant (omega arith) (omega arith) c.put_trace-size.ensures.within (search rules) c.put_trace-size.ensures.text)
    (omega arith)
