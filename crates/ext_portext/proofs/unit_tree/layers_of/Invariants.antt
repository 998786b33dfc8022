use Rattle.std.proofs.Common.{◌≡◌, map, take}
use Rattle.std.specs.List.{AllByRecursion}
use Rattle.ext_tree.specs.Tree.{IsTree}
use Rattle.ext_portext.specs.UnitTree.{inside_tree}
use Rattle.ext_portext.specs.declared.extending.Extending.{Extending}
use Rattle.ext_portext.proofs.unit_tree.layers_of.Given as goal

-- the layers so far are those of the first extensions, which are trees
abbrev pub invariant-extensions : goal.invariant-extensions
invariant-extensions l = record {
  so_far : l.layers.items ≡ map (λ (x : Extending). inside_tree l.hierarchies x.tree) (take l.extending-index l.extensions);
  trees : AllByRecursion (λ (x : Extending). IsTree x.tree) (take l.extending-index l.extensions);
}
