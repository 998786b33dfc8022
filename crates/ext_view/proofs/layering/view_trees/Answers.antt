use Rattle.std.proofs.Common.{◌≡◌, Err, true, sym, subst, ◌∙◌}
use Rattle.std.specs.List.{AllByRecursion}
use Rattle.std.proofs.lemmas.Result.{err_from_is_err_and}
use Rattle.ext_tree.specs.Tree.{IsTree}
use Rattle.ext_host.specs.Host.{is_in}
use Rattle.ext_view.specs.Hierarchies.{hierarchies_at}
use Rattle.ext_view.specs.Inside.{inside}
use Rattle.ext_view.specs.Replaced.{replaced}
use Rattle.ext_view.specs.Layering.{FitsWithin, GivesView, HasViewOf}
use Rattle.ext_view.proofs.InsideLemmas.{all_inside}
use Rattle.ext_view.proofs.ViewLemmas.{all_viewed, tree_lower, tree_root, trees_fail, trees_given, view_lower, view_root}
use Rattle.ext_view.proofs.layering.view_trees.Goals as goal

pub replaced-requires-clause-inside : goal.replaced-requires-clause-inside
replaced-requires-clause-inside c =
    let has = c.in_ok-view.ensures.0 in
    subst (AllByRecursion (λ e. is_in c.as_slice-hierarchies.result.now e.0 ≡ true)) (sym c.into_pairs.ensures.same)
    (all_viewed c.as_slice-hierarchies.result.now c.args.base has.images c.in_ok-view.view has.is_view)

pub replaced-requires-2-clause-inside : goal.replaced-requires-2-clause-inside
replaced-requires-2-clause-inside c =
    subst (AllByRecursion (λ e. is_in c.as_slice-hierarchies.result.now e.0 ≡ true)) (sym (c.into_pairs-2.ensures.same ∙ c.in_ok-view.ensures.1))
    (all_inside c.as_slice-hierarchies.result.now c.args.base)

pub within_limits-requires-clause-root : goal.within_limits-requires-clause-root
within_limits-requires-clause-root c =
    let host = c.args.host.now in
    let base = c.args.base in
    let view = c.in_ok-view.view in
    let names : c.as_slice-hierarchies.result.now ≡ hierarchies_at c.args.class host = c.as_slice-hierarchies.ensures ∙ c.hierarchies_of.ensures in
    let has : HasViewOf (hierarchies_at c.args.class host) base c.args.items.now view = subst (λ ns. HasViewOf ns base c.args.items.now view) names c.in_ok-view.ensures.0 in
    let root : c.in_ok-root.root.items ≡ view_root c.args.class host base c.requires.base c.pairs-old_root.ensures.tree.tree c.pairs-old_lower.ensures.tree.tree view = c.in_ok-root.ensures ∙ (λ i. replaced (names i) (c.pairs-old_root.ensures.same i) (c.into_pairs.ensures.same i)) in
    subst IsTree (sym root) (tree_root c.args.class host base c.requires.base c.pairs-old_root.ensures.tree.tree c.pairs-old_lower.ensures.tree.tree has.images view has.is_view)

pub within_limits-requires-clause-lower : goal.within_limits-requires-clause-lower
within_limits-requires-clause-lower c =
    let host = c.args.host.now in
    let base = c.args.base in
    let names : c.as_slice-hierarchies.result.now ≡ hierarchies_at c.args.class host = c.as_slice-hierarchies.ensures ∙ c.hierarchies_of.ensures in
    let lower : c.in_ok-lower.lower.items ≡ view_lower c.args.class host base c.requires.base c.pairs-old_root.ensures.tree.tree c.pairs-old_lower.ensures.tree.tree = c.in_ok-lower.ensures ∙ (λ i. replaced (names i) (c.pairs-old_lower.ensures.same i) ((c.into_pairs-2.ensures.same ∙ c.in_ok-view.ensures.1 ∙ (λ j. inside (names j) base)) i)) in
    subst IsTree (sym lower) (tree_lower c.args.class host base c.requires.base c.pairs-old_root.ensures.tree.tree c.pairs-old_lower.ensures.tree.tree)

pub returns : goal.returns
returns c =
    let host = c.args.host.now in
    let base = c.args.base in
    let view = c.in_ok-view.view in
    let names : c.as_slice-hierarchies.result.now ≡ hierarchies_at c.args.class host = c.as_slice-hierarchies.ensures ∙ c.hierarchies_of.ensures in
    let has : HasViewOf (hierarchies_at c.args.class host) base c.args.items.now view = subst (λ ns. HasViewOf ns base c.args.items.now view) names c.in_ok-view.ensures.0 in
    let root : c.in_ok-root.root.items ≡ view_root c.args.class host base c.requires.base c.pairs-old_root.ensures.tree.tree c.pairs-old_lower.ensures.tree.tree view = c.in_ok-root.ensures ∙ (λ i. replaced (names i) (c.pairs-old_root.ensures.same i) (c.into_pairs.ensures.same i)) in
    let lower : c.in_ok-lower.lower.items ≡ view_lower c.args.class host base c.requires.base c.pairs-old_root.ensures.tree.tree c.pairs-old_lower.ensures.tree.tree = c.in_ok-lower.ensures ∙ (λ i. replaced (names i) (c.pairs-old_lower.ensures.same i) ((c.into_pairs-2.ensures.same ∙ c.in_ok-view.ensures.1 ∙ (λ j. inside (names j) base)) i)) in
    trees_given c.args.class host base c.requires.base c.pairs-old_root.ensures.tree.tree c.pairs-old_lower.ensures.tree.tree c.args.items.now view c.within_limits.result has
    (subst (λ r. FitsWithin r (view_lower c.args.class host base c.requires.base c.pairs-old_root.ensures.tree.tree c.pairs-old_lower.ensures.tree.tree) c.within_limits.result) root (subst (λ l. FitsWithin c.in_ok-root.root.items l c.within_limits.result) lower c.within_limits.ensures))

pub returns-in_err-view : goal.returns-in_err-view
returns-in_err-view c =
    let p = err_from_is_err_and c.from_residual.result c.from_residual.ensures.1 in
    let host = c.args.host.now in
    let base = c.args.base in
    let names : c.as_slice-hierarchies.result.now ≡ hierarchies_at c.args.class host = c.as_slice-hierarchies.ensures ∙ c.hierarchies_of.ensures in
    rw (p.1, p.2)
    (trees_fail c.args.class host base c.requires.base c.pairs-old_root.ensures.tree.tree c.pairs-old_lower.ensures.tree.tree c.args.items.now c.in_err-view.field-0.0 (subst (λ ns. GivesView ns base c.args.items.now (Err c.in_err-view.field-0.0)) names c.in_err-view.ensures))
