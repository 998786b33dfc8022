use Rattle.std.proofs.Common.{[], ◌∷◌, Some, refl, ap, sym, ◌∙◌}
use Rattle.std.specs.FinMap.{is_sorted}
use Rattle.ext_text.specs.Path.{path_cmp}
use Rattle.ext_changes.specs.Told.{at_path, some_told}
use Rattle.ext_changes.specs.declared.change.ChangeKind.TheVariants.{Added}
use Rattle.ext_changes.proofs.StepLemmas.{leads_added, leads_along}
use Rattle.ext_changes.proofs.walking.step_added.Goals as goal

pub returns-in-Some : goal.returns-in-Some
returns-in-Some g c =
    let split = c.in-Some.ensures.cases.0 in
    leads_along g.A.Stamped.stamp g.B.Stamped.stamp c.args.earlier.now [] c.step_at.result.earlier.now [] c.args.later.now (c.in-Some.new.now ∷ c.in-Some.news.now) c.step_at.result.later.now c.in-Some.news.now (some_told c.step_at.result.found) (at_path c.in-Some.new.now.0 (Some Added))
    c.requires.earlier split c.step_at.ensures.found (c.step_at.ensures.earlier ∙ c.requires.earlier) c.step_at.ensures.later
    (leads_added g.A.Stamped.stamp g.B.Stamped.stamp [] c.in-Some.new.now c.in-Some.news.now refl (sym (ap (is_sorted path_cmp) split) ∙ c.requires.later) refl)
