-- `lines::events_line` meets its contract: the whole line, or nothing in too little room.
-- Assumes nothing.
use borrow.Author.Rules.{rules}
use native.Mathlib.Omega.{arith}
use mathlib.Core.Path.{◌≡◌}
use Prim.Native.Nat.{◌<◌, ◌^◌, ◌≤◌}
use lib.ListN.{length}
use Rattle.std.proofs.lemmas.Grind.{common_steps}
use Rattle.lines.specs.Put.{events_room}
use Rattle.lines.specs.Text.{events_text}
use Rattle.lines.proofs.Putting.{line_kept}
use Rattle.lines.proofs.Lines.{made_line}
use Rattle.lines.proofs.Events.{events_few}
use Rattle.lines.proofs.events_line.Goals as goal

pub returns : goal.returns
returns c =
    let room : c.in-Some.room ≡ events_room c.args.events.now = grind (arith, common_steps) in
    let both = made_line {text = events_text c.args.events.now} (rw room at c.make_line.ensures) (λ l m p. search rules) (events_few c.args.events.now) in
    record { result = both.0; out = both.1 }
