use Rattle.std.proofs.Common.{ℕ, List, ◌++◌, take}
use Rattle.std.specs.Prelude.{map}
use Rattle.ext_lines.specs.Lines.{lines_text}
use Rattle.ext_index_lines.specs.Homes.{line_of_entry}
use Rattle.ext_index.proofs.printing.put_entries.Given as goal

abbrev pub invariant-entries : goal.invariant-entries
invariant-entries g l = (before : List ℕ) → g.O.Out.holds l.fn.out before → g.O.Out.holds l.out (before ++ lines_text (map (line_of_entry l.generation) (take l.entry-index l.entries)))
