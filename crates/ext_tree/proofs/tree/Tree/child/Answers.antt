use Rattle.std.proofs.Common.{◌++◌, [], ◌∷◌, sym, ◌∙◌}
use Rattle.ext_tree.proofs.SlicesLemmas.{child_hit, child_missed, child_none}
use Rattle.ext_tree.proofs.tree.Tree.child.Goals as goal
use Rattle.ext_tree.proofs.tree.Tree.child.Goals.{in_default-via-in-Some+else-is_child, in_default-via-in_default}

pub returns-in-Some : goal.returns-in-Some
returns-in-Some g c = record {
  found = child_hit (c.args.directory.now ++ c.args.name.now ∷ []) c.args.self.now c.from_name.result.now c.in-Some.entry.now (rw c.pairs.ensures.same at c.from_name.ensures) (sym c.in-Some.ensures.value) (sym c.is_child.ensures ∙ c.if-is_child.true);
  tree = c.pairs.ensures.tree.tree;
}

pub returns-in_default : goal.returns-in_default
returns-in_default g c = record {
  found = elim c.in_default.branch [
    | in_default-via-in-Some+else-is_child w ↦
        child_missed (c.args.directory.now ++ c.args.name.now ∷ []) c.args.self.now c.from_name.result.now w.in-Some.entry.now c.pairs.ensures.tree.tree.sorted (rw c.pairs.ensures.same at c.from_name.ensures) (sym w.in-Some.ensures.value) (sym w.is_child.ensures ∙ w.if-is_child.false)
    | in_default-via-in_default w ↦
        child_none (c.args.directory.now ++ c.args.name.now ∷ []) c.args.self.now c.from_name.result.now (rw c.pairs.ensures.same at c.from_name.ensures) (sym w.in_default.ensures.value)
  ];
  tree = c.pairs.ensures.tree.tree;
}
