use Rattle.std.proofs.Common.{[], ◌++◌, sym, ap, ◌∙◌, subst, append_assoc}
use Rattle.std.proofs.lemmas.List.{append-nil}
use Rattle.ext_changes.specs.Changes.{AreChanges}
use Rattle.ext_changes.specs.Told.{all_told, some_told}
use Rattle.ext_changes.proofs.StepLemmas.{no_changes_of}
use Rattle.ext_changes.proofs.walking.push_changes.Goals as goal

pub steps-init : goal.steps-init
steps-init g c = record {
  earlier_sorted = c.requires.earlier;
  later_sorted = c.requires.later;
  found = [];
  added = sym (append-nil (all_told c.args.changes.now.items));
  whole = λ more changes. changes;
}

pub steps-preserved : goal.steps-preserved
steps-preserved g c =
    let was = c.steps.invariant in
    let found = some_told c.in-Some.step.found in
    record {
      earlier_sorted = c.in-Some.ensures.earlier_sorted;
      later_sorted = c.in-Some.ensures.later_sorted;
      found = was.found ++ found;
      added = c.in_ok-push_found-in-Some.ensures ∙ ap (λ cs. cs ++ found) was.added ∙ append_assoc (all_told c.args.changes.now.items) was.found found;
      whole = λ more changes. subst (AreChanges g.A.Stamped.stamp g.B.Stamped.stamp c.args.earlier.now c.args.later.now) (sym (append_assoc was.found found more)) (was.whole (found ++ more) (c.in-Some.ensures.whole more changes));
    }

pub steps-smaller : goal.steps-smaller
steps-smaller g c = c.in-Some.ensures.less

pub returns-in-None : goal.returns-in-None
returns-in-None g c =
    let was = c.steps.invariant in
    record {
      more = was.found;
      changes = subst (AreChanges g.A.Stamped.stamp g.B.Stamped.stamp c.args.earlier.now c.args.later.now) (append-nil was.found) (was.whole [] (no_changes_of g.A.Stamped.stamp g.B.Stamped.stamp c.steps.olds.now c.steps.news.now c.in-None.ensures.0 c.in-None.ensures.1));
      added = was.added;
    }
