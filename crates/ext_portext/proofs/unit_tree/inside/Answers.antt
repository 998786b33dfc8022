use Rattle.std.proofs.Common.{◌≡◌, rules, sym, subst, ◌∙◌}
use Rattle.std.proofs.lemmas.Fn.{filter_same}
use Rattle.ext_tree.specs.Tree.{IsTreeWithin}
use Rattle.ext_host.specs.Host.{is_in}
use Rattle.ext_portext.specs.UnitTree.{inside_tree}
use Rattle.ext_portext.proofs.InsideLemmas.{within_inside}
use Rattle.ext_portext.proofs.unit_tree.inside.Goals as goal

pub from_pairs-requires : goal.from_pairs-requires
from_pairs-requires c =
    let kept : c.retain.new.self.items ≡ inside_tree c.args.hierarchies.now c.into_pairs-pairs.result.items =
    filter_same _ (λ e. is_in c.args.hierarchies.now e.0) _ (λ x b f' h. search rules) _ _ c.retain.ensures.filtered
    in
    subst IsTreeWithin (sym kept) (within_inside c.args.hierarchies.now c.into_pairs-pairs.result.items c.into_pairs-pairs.ensures.tree)

pub returns-clause-inside : goal.returns-clause-inside
returns-clause-inside c =
    let kept : c.retain.new.self.items ≡ inside_tree c.args.hierarchies.now c.into_pairs-pairs.result.items =
    filter_same _ (λ e. is_in c.args.hierarchies.now e.0) _ (λ x b f' h. search rules) _ _ c.retain.ensures.filtered
    in
    c.from_pairs.ensures ∙ kept ∙ (λ i. inside_tree c.args.hierarchies.now ((c.into_pairs-pairs.ensures.same ∙ c.in_ok-copy.ensures) i))
