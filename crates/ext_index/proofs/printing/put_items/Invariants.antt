use Rattle.std.proofs.Common.{ℕ, List, ◌++◌, take}
use Rattle.std.specs.Prelude.{map}
use Rattle.ext_lines.specs.Lines.{lines_text}
use Rattle.ext_index.specs.Index.{line_of_item}
use Rattle.ext_index.proofs.printing.put_items.Given as goal

abbrev pub invariant-items : goal.invariant-items
invariant-items g l = (before : List ℕ) → g.O.Out.holds l.fn.out before → g.O.Out.holds l.out (before ++ lines_text (map (line_of_item) (take l.item-index l.items)))
