-- Document 01, 'Evenings worked by hand': records in its notation, in bytes.
use Rattle.std.specs.Prelude.{ℕ, zero, suc, ◌+◌, ◌-◌, cond, List, [], ◌++◌, eqb}
use Rattle.marks.specs.Sets.{has, lowest}
use Rattle.records.specs.declared.Record.{Record}
use Rattle.lines.specs.Words.{words}
use Rattle.lines.specs.Text.{decimal, line_end}

-- the room for the longest line of a record
abbrev pub record_room : ℕ
record_room = 256

-- the values of a set from i on, of which left are left, each after a comma
unfoldable pub later_values : ℕ → ℕ → ℕ → List ℕ
unfolding decimal
later_values set i zero = []
later_values set i (suc left) = cond (has set i) ((words "," ++ decimal i) ++ later_values set (i + 1) left) (later_values set (i + 1) left)

-- the values of a set of numbers below 64, in rising order and parted by commas
unfoldable pub values_text : ℕ → List ℕ
unfolding later_values
values_text set = cond (eqb set 0) [] (decimal (lowest 64 set) ++ later_values set (lowest 64 set + 1) (63 - lowest 64 set))

-- S, with the value at the server and the set in braces
unfoldable pub found_text : ℕ → ℕ → List ℕ
unfolding values_text
found_text seen set = words "S(" ++ (decimal seen ++ (words ",{" ++ (values_text set ++ (words "})" ++ line_end))))

-- R with tablet and value seen; W with tablet, new value and value seen; S with what was found; any other record says SF
unfoldable pub record_text : Record → List ℕ
unfolding found_text
record_text r =
    cond (eqb r.kind 1) (words "R" ++ (decimal r.tablet ++ (words " " ++ (decimal r.seen ++ line_end))))
    (cond (eqb r.kind 2) (words "W" ++ (decimal r.tablet ++ (words " " ++ (decimal r.new ++ (words "<" ++ (decimal r.seen ++ line_end))))))
    (cond (eqb r.kind 3) (found_text r.seen r.set) (words "SF" ++ line_end)))
