-- `lines::make_line` meets its contract: the pieces are put from the front on, or nothing is written.
-- Assumes nothing.
use borrow.Author.Rules.{rules}
use native.Mathlib.Omega.{arith}
use mathlib.Core.Path.{refl}
use Rattle.lines.proofs.make_line.Goals as goal

pub returns : goal.returns
returns g c =
    let same = c.requires.keeps c.begin-line.result c.pieces.new.arg2 (search rules) in
    record {
      ran = λ h. record {
        from = c.begin-line.result;
        to = c.pieces.new.arg2;
        goes = search rules;
        front = c.begin-line.ensures.at;
        bytes = c.begin-line.ensures.bytes;
        ends = refl;
        leaves = search (rules, same);
      };
      kept = λ h. absurd (omega arith);
    }
