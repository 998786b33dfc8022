use Rattle.std.proofs.Common.{◌≡◌, [], ◌∷◌, ◌++◌, take}
use Rattle.std.specs.List.{flat_map}
use Rattle.ext_tree.specs.Tree.{all_shown, as_shown}
use Rattle.ext_tree.specs.TreeText.{header, tree_line, version_of}
use Rattle.ext_tree.proofs.writing.write_entries_into.Given as goal

abbrev pub invariant-loop-entry : goal.invariant-loop-entry
invariant-loop-entry l = record {
  text : l.text.items ≡ (header 1 ++ 10 ∷ []) ++ flat_map (λ x. tree_line (x.now.0, as_shown x.now.1) ++ 10 ∷ []) (take l.entry-index l.entries);
  version : l.version ≡ version_of (all_shown (take l.entry-index l.entries));
}
