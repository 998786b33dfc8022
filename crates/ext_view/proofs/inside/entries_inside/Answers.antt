use Rattle.std.proofs.Common.{◌≡◌, rules, sym, subst, ◌∙◌}
use Rattle.std.proofs.lemmas.Fn.{filter_same}
use Rattle.ext_tree.specs.Tree.{IsTreeWithin}
use Rattle.ext_host.specs.Host.{is_in}
use Rattle.ext_view.specs.Inside.{inside}
use Rattle.ext_view.proofs.InsideLemmas.{within_inside}
use Rattle.ext_view.proofs.inside.entries_inside.Goals as goal

pub from_pairs-requires : goal.from_pairs-requires
from_pairs-requires c =
    let kept : c.retain.new.self.items ≡ inside c.args.hierarchies.now c.into_pairs-pairs.result.items =
    filter_same _ (λ e. is_in c.args.hierarchies.now e.0) _ (λ x b f' h. search rules) _ _ c.retain.ensures.filtered
    in
    subst IsTreeWithin (sym kept) (within_inside c.args.hierarchies.now c.into_pairs-pairs.result.items c.into_pairs-pairs.ensures.tree)

pub returns : goal.returns
returns c =
    let kept : c.retain.new.self.items ≡ inside c.args.hierarchies.now c.into_pairs-pairs.result.items =
    filter_same _ (λ e. is_in c.args.hierarchies.now e.0) _ (λ x b f' h. search rules) _ _ c.retain.ensures.filtered
    in
    c.from_pairs.ensures ∙ kept ∙ (λ i. inside c.args.hierarchies.now (c.into_pairs-pairs.ensures.same i))
