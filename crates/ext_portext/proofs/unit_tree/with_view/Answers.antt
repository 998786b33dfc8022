use Rattle.std.proofs.Common.{◌≡◌, None, ◌∙◌, sym, subst}
use Rattle.std.specs.List.{AllByRecursion}
use Rattle.ext_tree.specs.Joining.{put_all}
use Rattle.ext_tree.specs.Tree.{Entries, IsTree, lookup}
use Rattle.ext_host.specs.Held.{HeldFile}
use Rattle.ext_portext.specs.Steps.{FitsTree}
use Rattle.ext_portext.proofs.unit_tree.with_view.Goals as goal

pub joined-requires-clause-apart : goal.joined-requires-clause-apart
joined-requires-clause-apart c =
    subst (λ (es : Entries HeldFile). AllByRecursion (λ e. lookup es e.0 ≡ None) c.in_ok-others.others.items) (sym c.into_pairs.ensures.same)
    (subst (λ (es : Entries HeldFile). AllByRecursion (λ e. lookup c.args.view e.0 ≡ None) es) (sym c.in_ok-others.ensures.outside) c.requires.apart)

pub within_limit-requires : goal.within_limit-requires
within_limit-requires c =
    subst (λ (es : Entries HeldFile). IsTree es) (sym (c.in_ok-pairs.ensures ∙ (λ i. put_all (c.in_ok-others.ensures.outside i) (c.into_pairs.ensures.same i)))) c.requires.tree

pub returns : goal.returns
returns c =
    subst (λ (es : Entries HeldFile). FitsTree es c.within_limit.result) (c.in_ok-pairs.ensures ∙ (λ i. put_all (c.in_ok-others.ensures.outside i) (c.into_pairs.ensures.same i))) c.within_limit.ensures
