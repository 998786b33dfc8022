use Rattle.std.proofs.Common.{ℕ, List, ◌++◌, take}
use Rattle.std.specs.Prelude.{map}
use Rattle.ext_lines.specs.Lines.{lines_text}
use Rattle.ext_index_lines.specs.Lines.{worded}
use Rattle.ext_index.proofs.printing.put_names.Given as goal

abbrev pub invariant-names : goal.invariant-names
invariant-names g l = (before : List ℕ) → g.O.Out.holds l.fn.out before → g.O.Out.holds l.out (before ++ lines_text (map (worded l.word) (take l.name-index l.names)))
