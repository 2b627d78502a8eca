-- Whatever puts the traces from this one on puts all of them.
-- Assumes nothing.
use Rattle.report.proofs.Listed.{Reached}
use Rattle.report.proofs.traces.put_traces.Given as goal

abbrev pub invariant-loop-trace : goal.invariant-loop-trace
invariant-loop-trace l = Reached l.file l.traces l.initial.out l.out l.size l.trace
