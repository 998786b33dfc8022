use Rattle.std.proofs.Common.{sym, ◌∙◌, subst, ap, map}
use Rattle.ext_tree.specs.Part.{seen_from}
use Rattle.ext_tree.specs.Tree.{IsTreeWithin, lookup}
use Rattle.ext_tree.proofs.PartLemmas.{is_part, tree_part_within}
use Rattle.ext_tree.proofs.tree.Tree.part.Goals as goal

pub from_pairs-requires : goal.from_pairs-requires
from_pairs-requires g c =
    subst IsTreeWithin (sym (c.in_ok-entries.ensures ∙ ap (map (seen_from c.args.path.now)) (rw c.names-2.ensures.same at c.below.ensures.same)))
    (tree_part_within c.args.path.now c.args.self.now c.pairs.ensures.tree)

pub returns-clause-each : goal.returns-clause-each
returns-clause-each g c = λ q.
    ap (λ es. lookup es q) (c.from_pairs.ensures ∙ c.in_ok-entries.ensures ∙ ap (map (seen_from c.args.path.now)) (rw c.names-2.ensures.same at c.below.ensures.same))
    ∙ is_part c.args.path.now c.args.self.now q
