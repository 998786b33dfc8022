use Rattle.std.proofs.Common.{ℕ, List, ◌++◌, take}
use Rattle.std.specs.Prelude.{map}
use Rattle.ext_lines.specs.Lines.{lines_text}
use Rattle.ext_index_lines.specs.Lines.{path_line}
use Rattle.ext_index.proofs.printing.put_paths.Given as goal

abbrev pub invariant-paths : goal.invariant-paths
invariant-paths g l = (before : List ℕ) → g.O.Out.holds l.fn.out before → g.O.Out.holds l.out (before ++ lines_text (map (path_line l.word) (take l.path-index l.paths)))
