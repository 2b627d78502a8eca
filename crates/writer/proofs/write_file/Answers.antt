-- `writer::write_file` meets its contract: where nothing is refused the head, the entries one by one and the records make the
-- file.
-- Assumes nothing.
use mathlib.Core.Path.{◌∙◌}
use native.Mathlib.Omega.{arith}
use Rattle.writer.proofs.Buffer.{entering, drop_both, one_entered, all_entered, finished}
use Rattle.writer.proofs.write_file.Goals as goal

pub loop-i-preserved : goal.loop-i-preserved
loop-i-preserved c =
    let offset = c.copy_from_slice-in-loop-i.ensures.after ∙ c.to_le_bytes.ensures in
    let count = c.copy_from_slice-in-loop-i-2.ensures.after ∙ c.to_le_bytes-in-loop-i.ensures in
    let room = c.in_ok-length.ensures.decided in
    record {
      below = grind (arith, entering);
      before = one_entered _ _ _ _ _ _ _ _ (omega arith) (omega (arith, room)) offset count c.loop-i.invariant.before;
      behind = grind (arith, drop_both);
    }

pub returns-clause-buffer : goal.returns-clause-buffer
returns-clause-buffer c =
    let front = all_entered _ _ _ _ _ _ (omega arith) (omega arith) c.loop-i.invariant.before in
    finished _ _ _ _ _ _ _ _ (grind arith) front c.loop-i.invariant.behind c.copy_from_slice-2.ensures.after
