use Rattle.std.proofs.Common.{sym, subst, ap, ◌∙◌}
use Rattle.ext_tree.specs.Cut.{cut}
use Rattle.ext_tree.specs.Tree.{IsTreeWithin, lookup}
use Rattle.ext_tree.proofs.PartLemmas.{is_cut, tree_cut_within}
use Rattle.ext_tree.proofs.tree.Tree.cut.Goals as goal

pub invariant_of-self : goal.invariant_of-self
invariant_of-self g c =
    subst IsTreeWithin (sym (rw c.names.ensures.same at c.cut_entries.ensures)) (tree_cut_within c.args.path.now c.self.inside.entries.items c.self.invariant)

pub returns-clause-each : goal.returns-clause-each
returns-clause-each g c = λ q.
    ap (λ es. lookup es q) (rw c.names.ensures.same at c.cut_entries.ensures ∙ ap (cut c.args.path.now) c.self.view_is) ∙ is_cut c.args.path.now c.args.self.now q
