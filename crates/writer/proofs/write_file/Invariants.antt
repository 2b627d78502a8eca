-- The first i entries stand in the buffer behind the head, and the next body follows those passed. Behind the entries the
-- buffer is as it was.
-- Assumes nothing.
use mathlib.Core.List.{◌++◌}
use mathlib.Core.Path.{◌≡◌}
use Prim.Native.Nat.{◌+◌, ◌*◌, ◌≤◌}
use lib.ListN.{length, take, drop}
use Rattle.tracefile.specs.File.{entry, record_size}
use Rattle.writer.specs.Written.{sum, entries_of}
use Rattle.writer.proofs.Buffer.{front}
use Rattle.writer.proofs.write_file.Given as goal

abbrev pub invariant-loop-i : goal.invariant-loop-i
invariant-loop-i l =
    record {
      below : l.at + record_size * sum (drop l.i l.counts) ≤ 65535;
      before : take (entry l.i) l.buffer ++ entries_of l.at (drop l.i l.counts) ≡ front l.n l.v l.counts;
      behind : drop (entry (length l.counts)) l.buffer ≡ drop (entry (length l.counts)) l.fn.buffer;
    }
