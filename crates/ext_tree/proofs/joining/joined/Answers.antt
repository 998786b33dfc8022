use Rattle.std.proofs.Common.{◌≡◌, ◌∷◌, ◌++◌, None, sym, ap, ◌∙◌, subst}
use Rattle.std.specs.List.{AllByRecursion}
use Rattle.std.specs.FinMap.{is_sorted}
use Rattle.ext_text.specs.Path.{path_cmp}
use Rattle.ext_tree.specs.Joining.{put_all}
use Rattle.ext_tree.specs.Tree.{lookup}
use Rattle.ext_tree.proofs.JoiningLemmas.{lay_step}
use Rattle.ext_tree.proofs.joining.joined.Goals as goal

pub entries-init : goal.entries-init
entries-init g c = record {
  so_far = λ i. c.in_ok-pairs.ensures.items i ++ put_all (c.from-rest.ensures.0 i) (c.from-others.ensures.0 i);
  sorted = ap (is_sorted path_cmp) c.from-rest.ensures.0 ∙ c.requires.first_sorted;
  others_sorted = ap (is_sorted path_cmp) c.from-others.ensures.0 ∙ c.requires.second_sorted;
  apart = subst (λ fs. AllByRecursion (λ e. lookup fs e.0 ≡ None) c.from-rest.result.items) (sym c.from-others.ensures.0)
      (subst (AllByRecursion (λ e. lookup c.args.second.items e.0 ≡ None)) (sym c.from-rest.ensures.0) c.requires.apart);
}

pub entries-preserved : goal.entries-preserved
entries-preserved g c =
    let was = c.entries.invariant in
    let split : c.entries.rest.items ≡ c.in-Some.pair ∷ c.pop_front.new.self.items = c.in-Some.ensures.items in
    let step = lay_step c.in-Some.pair c.pop_front.new.self.items c.entries.pairs.items c.lay.new.pairs.items c.entries.others.items c.lay.new.others.items (put_all c.args.first.items c.args.second.items)
    (sym (ap (is_sorted path_cmp) split) ∙ was.sorted) was.others_sorted (subst (AllByRecursion (λ e. lookup c.entries.others.items e.0 ≡ None)) split was.apart)
    (ap (λ es. c.entries.pairs.items ++ put_all es c.entries.others.items) (sym split) ∙ was.so_far) c.in_ok-lay-in-Some.ensures.laid c.in_ok-lay-in-Some.ensures.left in
    record { so_far = step.0; sorted = step.1; others_sorted = step.2; apart = step.3 }
