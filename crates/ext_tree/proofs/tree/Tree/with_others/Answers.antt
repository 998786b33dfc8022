use Rattle.std.proofs.Common.{◌≡◌, ◌+◌, None, length, sym, ap, ◌∙◌, subst, arith}
use Rattle.std.specs.List.{AllByRecursion}
use Rattle.std.specs.FinMap.{is_sorted}
use Rattle.ext_text.specs.Path.{path_cmp}
use Rattle.ext_tree.specs.Joining.{lacking, put_all, with_others}
use Rattle.ext_tree.specs.Tree.{IsTreeWithin, lookup}
use Rattle.ext_tree.proofs.JoiningLemmas.{apart_lacking, is_with, length-with, sorted_lacking, tree_with_others}
use Rattle.ext_tree.proofs.tree.Tree.with_others.Goals as goal

pub returns-then-pairs-len-gt-MOST_ENTRIES-clause-limit : goal.returns-then-pairs-len-gt-MOST_ENTRIES-clause-limit
returns-then-pairs-len-gt-MOST_ENTRIES-clause-limit g c =
    let self = c.args.self.now in
    let others = c.args.others in
    let new : c.lacking-new.result.items ≡ lacking self others = c.lacking-new.ensures ∙ ap (lacking self) c.into_pairs.ensures.same in
    let count : length (with_others self others) ≡ length self + length (lacking self others) = length-with self others c.pairs.ensures.tree.tree.sorted in
    omega (arith, ap length new, ap length c.pairs.ensures.same, c.len.ensures, c.lacking-new.result.ok.0, c.if-pairs-len-gt-MOST_ENTRIES.true)

pub joined-requires-clause-second_sorted : goal.joined-requires-clause-second_sorted
joined-requires-clause-second_sorted g c =
    let self = c.args.self.now in
    let others = c.args.others in
    let new : c.lacking-new.result.items ≡ lacking self others = c.lacking-new.ensures ∙ ap (lacking self) c.into_pairs.ensures.same in
    ap (is_sorted path_cmp) new ∙ sorted_lacking self others (subst IsTreeWithin c.into_pairs.ensures.same c.into_pairs.ensures.tree).tree.sorted

pub joined-requires-clause-apart : goal.joined-requires-clause-apart
joined-requires-clause-apart g c =
    let self = c.args.self.now in
    let others = c.args.others in
    let new : c.lacking-new.result.items ≡ lacking self others = c.lacking-new.ensures ∙ ap (lacking self) c.into_pairs.ensures.same in
    let old : c.in_ok-old.old.items ≡ self = c.in_ok-old.ensures ∙ c.pairs-2.ensures.same in
    subst (AllByRecursion (λ e. lookup c.lacking-new.result.items e.0 ≡ None)) (sym old)
    (subst (λ fs. AllByRecursion (λ e. lookup fs e.0 ≡ None) self) (sym new) (apart_lacking self others))

pub from_pairs-requires : goal.from_pairs-requires
from_pairs-requires g c =
    let self = c.args.self.now in
    let others = c.args.others in
    let new : c.lacking-new.result.items ≡ lacking self others = c.lacking-new.ensures ∙ ap (lacking self) c.into_pairs.ensures.same in
    let old : c.in_ok-old.old.items ≡ self = c.in_ok-old.ensures ∙ c.pairs-2.ensures.same in
    let count : length (with_others self others) ≡ length self + length (lacking self others) = length-with self others c.pairs.ensures.tree.tree.sorted in
    subst IsTreeWithin (sym (c.in_ok-pairs.ensures ∙ (λ i. put_all (old i) (new i)))) (record {
      tree = tree_with_others self others c.pairs.ensures.tree.tree (subst IsTreeWithin c.into_pairs.ensures.same c.into_pairs.ensures.tree).tree c.requires;
      count = omega (arith, ap length new, ap length c.pairs.ensures.same, c.len.ensures, c.lacking-new.result.ok.0, c.if-pairs-len-gt-MOST_ENTRIES.false);
    })

pub returns-clause-each : goal.returns-clause-each
returns-clause-each g c =
    let self = c.args.self.now in
    let others = c.args.others in
    let new : c.lacking-new.result.items ≡ lacking self others = c.lacking-new.ensures ∙ ap (lacking self) c.into_pairs.ensures.same in
    let old : c.in_ok-old.old.items ≡ self = c.in_ok-old.ensures ∙ c.pairs-2.ensures.same in
    λ q. ap (λ es. lookup es q) (c.from_pairs.ensures ∙ c.in_ok-pairs.ensures ∙ (λ i. put_all (old i) (new i))) ∙ is_with self others q

pub returns-clause-limit : goal.returns-clause-limit
returns-clause-limit g c =
    let self = c.args.self.now in
    let others = c.args.others in
    let new : c.lacking-new.result.items ≡ lacking self others = c.lacking-new.ensures ∙ ap (lacking self) c.into_pairs.ensures.same in
    let count : length (with_others self others) ≡ length self + length (lacking self others) = length-with self others c.pairs.ensures.tree.tree.sorted in
    omega (arith, ap length new, ap length c.pairs.ensures.same, c.len.ensures, c.lacking-new.result.ok.0, c.if-pairs-len-gt-MOST_ENTRIES.false)
