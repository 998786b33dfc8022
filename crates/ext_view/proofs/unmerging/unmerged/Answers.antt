use Rattle.std.proofs.Common.{◌≡◌, None, true, subst, sym, ap, ◌∙◌, map}
use Rattle.std.proofs.lemmas.Result.{IfOk-weaker}
use Rattle.std.specs.FinMap.{is_sorted}
use Rattle.std.specs.List.{AllByRecursion}
use Rattle.ext_text.specs.Path.{path_cmp}
use Rattle.ext_host.specs.Host.{is_in}
use Rattle.ext_tree.specs.Tree.{IsTreeWithin}
use Rattle.ext_view.specs.Hierarchies.{hierarchies_at}
use Rattle.ext_view.specs.Inside.{inside, seen_below}
use Rattle.ext_view.specs.Replaced.{replaced}
use Rattle.ext_view.specs.View.{with_view}
use Rattle.ext_view.proofs.InsideLemmas.{all_inside, seen_whole, sorted_inside}
use Rattle.ext_view.proofs.UnmergedLemmas.{is_next, is_unmerged, unmerged_lower, unmerged_root, within_lower, within_root}
use Rattle.ext_view.proofs.unmerging.unmerged.Goals as goal

pub replaced-requires-clause-new_sorted : goal.replaced-requires-clause-new_sorted
replaced-requires-clause-new_sorted c =
    let names = c.as_slice-hierarchies.result.now in
    let base : c.in_ok-base.base.items ≡ inside names c.args.host.now.lower = c.in_ok-base.ensures ∙ (λ i. inside names (map (seen_below 0) (c.pairs.ensures.same i))) ∙ ap (inside names) (seen_whole c.args.host.now.lower) in
    subst (λ es. is_sorted path_cmp es ≡ true) (sym base) (sorted_inside names c.args.host.now.lower c.pairs.ensures.tree.tree.sorted)

pub replaced-requires-clause-inside : goal.replaced-requires-clause-inside
replaced-requires-clause-inside c =
    let names = c.as_slice-hierarchies.result.now in
    let base : c.in_ok-base.base.items ≡ inside names c.args.host.now.lower = c.in_ok-base.ensures ∙ (λ i. inside names (map (seen_below 0) (c.pairs.ensures.same i))) ∙ ap (inside names) (seen_whole c.args.host.now.lower) in
    subst (AllByRecursion (λ e. is_in names e.0 ≡ true)) (sym base) (all_inside names c.args.host.now.lower)

pub from_pairs-root-requires : goal.from_pairs-root-requires
from_pairs-root-requires c =
    let host = c.args.host.now in
    let names : c.as_slice-hierarchies.result.now ≡ hierarchies_at c.args.class host = c.as_slice-hierarchies.ensures ∙ c.hierarchies_of.ensures in
    let base : c.in_ok-base.base.items ≡ inside (hierarchies_at c.args.class host) host.lower = c.in_ok-base.ensures ∙ (λ i. inside (names i) (map (seen_below 0) (c.pairs.ensures.same i))) ∙ ap (inside (hierarchies_at c.args.class host)) (seen_whole host.lower) in
    let root : c.in_ok-root.root.items ≡ unmerged_root c.args.class host = c.in_ok-root.ensures ∙ (λ i. replaced (names i) (c.pairs-2.ensures.same i) (base i)) in
    subst IsTreeWithin (sym root) (within_root c.args.class host c.pairs-2.ensures.tree.tree c.pairs.ensures.tree.tree c.requires.valid c.requires.merged)

pub from_pairs-lower-requires : goal.from_pairs-lower-requires
from_pairs-lower-requires c =
    let host = c.args.host.now in
    let names : c.as_slice-hierarchies.result.now ≡ hierarchies_at c.args.class host = c.as_slice-hierarchies.ensures ∙ c.hierarchies_of.ensures in
    let lower : c.in_ok-lower.lower.items ≡ unmerged_lower c.args.class host = c.in_ok-lower.ensures ∙ (λ i. replaced (names i) (c.pairs-3.ensures.same i) (c.new.ensures.items i)) in
    subst IsTreeWithin (sym lower) (within_lower c.args.class host c.pairs-2.ensures.tree.tree c.pairs.ensures.tree.tree c.requires.valid c.requires.merged)

pub returns-clause-unmerged : goal.returns-clause-unmerged
returns-clause-unmerged c =
    let host = c.args.host.now in
    let names : c.as_slice-hierarchies.result.now ≡ hierarchies_at c.args.class host = c.as_slice-hierarchies.ensures ∙ c.hierarchies_of.ensures in
    let base : c.in_ok-base.base.items ≡ inside (hierarchies_at c.args.class host) host.lower = c.in_ok-base.ensures ∙ (λ i. inside (names i) (map (seen_below 0) (c.pairs.ensures.same i))) ∙ ap (inside (hierarchies_at c.args.class host)) (seen_whole host.lower) in
    let root : c.in_ok-root.root.items ≡ unmerged_root c.args.class host = c.in_ok-root.ensures ∙ (λ i. replaced (names i) (c.pairs-2.ensures.same i) (base i)) in
    let lower : c.in_ok-lower.lower.items ≡ unmerged_lower c.args.class host = c.in_ok-lower.ensures ∙ (λ i. replaced (names i) (c.pairs-3.ensures.same i) (c.new.ensures.items i)) in
    IfOk-weaker c.with_view.result _ _
    (λ next same. is_unmerged c.args.class host c.pairs-2.ensures.tree.tree c.pairs.ensures.tree.tree c.requires.valid c.requires.merged next (same ∙ (λ i. with_view c.args.class None ((c.from_pairs-root.ensures ∙ root) i) ((c.from_pairs-lower.ensures ∙ lower) i) host)))
    c.with_view.ensures

pub returns-clause-next : goal.returns-clause-next
returns-clause-next c =
    let host = c.args.host.now in
    let names : c.as_slice-hierarchies.result.now ≡ hierarchies_at c.args.class host = c.as_slice-hierarchies.ensures ∙ c.hierarchies_of.ensures in
    let base : c.in_ok-base.base.items ≡ inside (hierarchies_at c.args.class host) host.lower = c.in_ok-base.ensures ∙ (λ i. inside (names i) (map (seen_below 0) (c.pairs.ensures.same i))) ∙ ap (inside (hierarchies_at c.args.class host)) (seen_whole host.lower) in
    let root : c.in_ok-root.root.items ≡ unmerged_root c.args.class host = c.in_ok-root.ensures ∙ (λ i. replaced (names i) (c.pairs-2.ensures.same i) (base i)) in
    let lower : c.in_ok-lower.lower.items ≡ unmerged_lower c.args.class host = c.in_ok-lower.ensures ∙ (λ i. replaced (names i) (c.pairs-3.ensures.same i) (c.new.ensures.items i)) in
    IfOk-weaker c.with_view.result _ _
    (λ next same. is_next c.args.class host c.pairs-2.ensures.tree.tree c.pairs.ensures.tree.tree c.requires.valid c.requires.merged next (same ∙ (λ i. with_view c.args.class None ((c.from_pairs-root.ensures ∙ root) i) ((c.from_pairs-lower.ensures ∙ lower) i) host)))
    c.with_view.ensures
