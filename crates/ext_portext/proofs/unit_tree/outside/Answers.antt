use Rattle.std.proofs.Common.{◌≡◌, true, not, rules, sym, subst, ◌∙◌}
use Rattle.std.specs.FinMap.{is_sorted}
use Rattle.std.proofs.lemmas.Fn.{filter_same}
use Rattle.ext_text.specs.Path.{path_cmp}
use Rattle.ext_host.specs.Host.{is_in}
use Rattle.ext_portext.specs.UnitTree.{outside_tree}
use Rattle.ext_portext.proofs.InsideLemmas.{sorted_where}
use Rattle.ext_portext.proofs.unit_tree.outside.Goals as goal

pub returns-clause-outside : goal.returns-clause-outside
returns-clause-outside c =
    let kept : c.retain.new.self.items ≡ outside_tree c.args.hierarchies.now c.into_pairs-pairs.result.items =
    filter_same _ (λ e. not (is_in c.args.hierarchies.now e.0)) _ (λ x b f' h. search rules) _ _ c.retain.ensures.filtered
    in
    kept ∙ (λ i. outside_tree c.args.hierarchies.now ((c.into_pairs-pairs.ensures.same ∙ c.in_ok-copy.ensures) i))

pub returns-clause-sorted : goal.returns-clause-sorted
returns-clause-sorted c =
    let kept : c.retain.new.self.items ≡ outside_tree c.args.hierarchies.now c.into_pairs-pairs.result.items =
    filter_same _ (λ e. not (is_in c.args.hierarchies.now e.0)) _ (λ x b f' h. search rules) _ _ c.retain.ensures.filtered
    in
    subst (λ es. is_sorted path_cmp es ≡ true) (sym kept) (sorted_where (λ p. not (is_in c.args.hierarchies.now p)) c.into_pairs-pairs.result.items c.into_pairs-pairs.ensures.tree.tree.sorted)
