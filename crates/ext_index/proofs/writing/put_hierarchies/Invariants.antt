use Rattle.std.proofs.Common.{ℕ, List, ◌++◌, take}
use Rattle.std.specs.Prelude.{map}
use Rattle.ext_lines.specs.Lines.{lines_text}
use Rattle.ext_index_lines.specs.Lines.{hierarchy_line}
use Rattle.ext_index.proofs.writing.put_hierarchies.Given as goal

abbrev pub invariant-names : goal.invariant-names
invariant-names g l = (before : List ℕ) → g.O.Out.holds l.fn.out before → g.O.Out.holds l.out (before ++ lines_text (map (hierarchy_line l.class) (take l.name-index l.names)))
