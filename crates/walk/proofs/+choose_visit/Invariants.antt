-- With each visit the room is two bytes shorter, and with each further choice the set of choices is smaller.
-- Assumes nothing.
use Rattle.std.proofs.Common.{◌+◌, ◌*◌, ◌^◌, length}
use Rattle.walk.proofs.+choose_visit.Given as goal

abbrev pub decreases-choose : goal.decreases-choose
decreases-choose l = 2 ^ 64 * length l.room.now + l.choices

abbrev pub decreases-visit : goal.decreases-visit
decreases-visit l = 2 ^ 64 * length l.room.now + 2 ^ 64
