use Rattle.std.proofs.Common.{◌++◌, take}
use Rattle.std.specs.List.{AllByRecursion}
use Rattle.ext_tree.specs.Tree.{IsTree}
use Rattle.ext_homes.specs.KeptFiles.{HaveSame, past_trees, trees_kept}
use Rattle.ext_homes.specs.Sought.{is_sought}
use Rattle.ext_homes.proofs.kept_files.append_past.Given as goal

abbrev pub invariant-loop-tree : goal.invariant-loop-tree
invariant-loop-tree l =
    HaveSame (l.fn.collected.files.items ++ trees_kept (is_sought l.sought) (past_trees (take l.tree-index l.past))) l.collected.files.items
    × AllByRecursion (λ es. IsTree es) (past_trees (take l.tree-index l.past))
