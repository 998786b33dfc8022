use Rattle.std.proofs.Common.{◌≡◌, map, sym, subst, ◌∙◌}
use Rattle.ext_tree.specs.Part.{part}
use Rattle.ext_tree.specs.Tree.{IsTreeWithin}
use Rattle.ext_tree.proofs.ForCallers.{tree_part_within}
use Rattle.ext_view.specs.Inside.{inside, seen_below}
use Rattle.ext_view.proofs.InsideLemmas.{within_inside}
use Rattle.ext_view.proofs.layers.part_below.Goals as goal

pub from_pairs-requires : goal.from_pairs-requires
from_pairs-requires c =
    let image = c.args.image.now in
    let base = c.args.base.now in
    let whole : c.in_ok-copies.copies.items ≡ inside c.args.hierarchies.now (part image base) =
    c.in_ok-copies.ensures ∙ (λ i. inside c.args.hierarchies.now (map (seen_below (c.depth.ensures i)) (c.below.ensures.same i)))
    in
    subst IsTreeWithin (sym whole) (within_inside c.args.hierarchies.now (part image base) (tree_part_within image base c.pairs-entries.ensures.tree))
