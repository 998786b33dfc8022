use Rattle.std.proofs.Common.{◌≡◌, [], ◌∷◌, ◌++◌, take}
use Rattle.std.specs.List.{flat_map}
use Rattle.ext_tree.specs.TreeText.{header, version_of, tree_line}
use Rattle.ext_tree.proofs.writing.write_tree.Given as goal

abbrev pub invariant-loop-path : goal.invariant-loop-path
invariant-loop-path l = l.text.items ≡ (header (version_of l.fn.tree) ++ 10 ∷ []) ++ flat_map (λ x. tree_line x ++ 10 ∷ []) (take l.path-index l.path-items)
