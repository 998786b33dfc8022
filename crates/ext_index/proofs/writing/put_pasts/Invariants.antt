use Rattle.std.proofs.Common.{ℕ, List, ◌++◌, take}
use Rattle.std.specs.List.{flat_map}
use Rattle.ext_lines.specs.Lines.{lines_text}
use Rattle.ext_index.specs.Index.{past_lines}
use Rattle.ext_index.proofs.writing.put_pasts.Given as goal

abbrev pub invariant-pasts : goal.invariant-pasts
invariant-pasts g l = (before : List ℕ) → g.O.Out.holds l.fn.out before → g.O.Out.holds l.out (before ++ lines_text (flat_map (past_lines l.generation) (take l.past-index l.pasts)))
