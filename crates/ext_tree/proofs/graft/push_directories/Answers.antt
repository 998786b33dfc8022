use Rattle.std.proofs.Common.{◌∷◌, [], ◌++◌, ap, ◌∙◌, arith}
use Rattle.ext_tree.proofs.GraftingLemmas.{directories_grown}
use Rattle.ext_tree.proofs.graft.push_directories.Goals as goal

pub names-preserved : goal.names-preserved
names-preserved g c = record {
  low = omega arith;
  high = omega arith;
  so_far = directories_grown c.args.path.now c.args.standing c.names.count c.args.new.now.items c.names.new.items c.push.new.self.items c.names.invariant.low c.names.invariant.so_far (c.in_ok-push.ensures.items ∙ ap (λ e. c.names.new.items ++ e ∷ []) c.in_ok-directory_at.ensures);
}
