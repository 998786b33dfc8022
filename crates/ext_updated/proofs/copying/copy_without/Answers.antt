use Rattle.std.proofs.Common.{◌≡◌, ◌++◌, ◌∙◌, subst, sym}
use Rattle.ext_tree.specs.Cut.{cut_all}
use Rattle.ext_tree.specs.Tree.{IsTreeWithin}
use Rattle.ext_tree.proofs.ForCallers.{tree_cut_all_within}
use Rattle.ext_updated.proofs.copying.copy_without.Goals as goal

pub from_pairs-requires : goal.from_pairs-requires
from_pairs-requires g c =
    let whole : c.append_left.new.left.items ≡ cut_all c.args.paths.now c.args.root.now = c.in_ok-append_left.ensures ∙ (λ i. c.in_ok-left.ensures.items i ++ cut_all (c.as_slice.ensures.same i) (c.pairs-2.ensures.same i)) in
    subst IsTreeWithin (sym whole) (tree_cut_all_within c.args.paths.now c.args.root.now c.pairs.ensures.tree)
