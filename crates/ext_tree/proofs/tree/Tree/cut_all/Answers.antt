use Rattle.std.proofs.Common.{sym, subst, ap, ◌∙◌}
use Rattle.ext_tree.specs.Cut.{cut_all}
use Rattle.ext_tree.specs.Tree.{IsTreeWithin, lookup}
use Rattle.ext_tree.proofs.PartLemmas.{is_cut_all, tree_cut_all_within}
use Rattle.ext_tree.proofs.tree.Tree.cut_all.Goals as goal

pub invariant_of-self : goal.invariant_of-self
invariant_of-self g c =
    subst IsTreeWithin (sym c.cut_all_entries.ensures) (tree_cut_all_within c.args.paths.now c.self.inside.entries.items c.self.invariant)

pub returns-clause-each : goal.returns-clause-each
returns-clause-each g c = λ q.
    ap (λ es. lookup es q) (c.cut_all_entries.ensures ∙ ap (cut_all c.args.paths.now) c.self.view_is) ∙ is_cut_all c.args.paths.now c.args.self.now q
