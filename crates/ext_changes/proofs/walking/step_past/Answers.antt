use Rattle.std.proofs.Common.{[], ◌∷◌, Some, refl, ap, sym, ◌∙◌}
use Rattle.std.proofs.lemmas.List.{nil_from_length}
use Rattle.std.specs.FinMap.{is_sorted}
use Rattle.ext_text.specs.Path.{path_cmp}
use Rattle.ext_changes.specs.Told.{at_path, some_told}
use Rattle.ext_changes.specs.declared.change.ChangeKind.TheVariants.{Added, Removed}
use Rattle.ext_changes.proofs.StepLemmas.{leads_along, leads_both, leads_greater, leads_less, leads_removed}
use Rattle.ext_changes.proofs.walking.step_past.Goals as goal

pub returns-in-None : goal.returns-in-None
returns-in-None g c =
    let none = nil_from_length c.args.later.now c.in-None.ensures.cases in
    leads_along g.A.Stamped.stamp g.B.Stamped.stamp c.args.earlier.now (c.args.old.now ∷ c.args.olds.now) c.step_at.result.earlier.now c.args.olds.now c.args.later.now [] c.step_at.result.later.now [] (some_told c.step_at.result.found) (at_path c.args.old.now.0 (Some Removed))
    c.requires.split none c.step_at.ensures.found c.step_at.ensures.earlier (c.step_at.ensures.later ∙ none)
    (leads_removed g.A.Stamped.stamp g.B.Stamped.stamp c.args.old.now c.args.olds.now [] (sym (ap (is_sorted path_cmp) c.requires.split) ∙ c.requires.earlier) refl refl)

pub returns-in-Less : goal.returns-in-Less
returns-in-Less g c =
    let split = c.in-Some.ensures.cases.0 in
    leads_along g.A.Stamped.stamp g.B.Stamped.stamp c.args.earlier.now (c.args.old.now ∷ c.args.olds.now) c.step_at-in-Less.result.earlier.now c.args.olds.now c.args.later.now (c.in-Some.new.now ∷ c.in-Some.news.now) c.step_at-in-Less.result.later.now (c.in-Some.new.now ∷ c.in-Some.news.now) (some_told c.step_at-in-Less.result.found) (at_path c.args.old.now.0 (Some Removed))
    c.requires.split split c.step_at-in-Less.ensures.found c.step_at-in-Less.ensures.earlier (c.step_at-in-Less.ensures.later ∙ split)
    (leads_less g.A.Stamped.stamp g.B.Stamped.stamp c.args.old.now c.args.olds.now c.in-Some.new.now c.in-Some.news.now (sym (ap (is_sorted path_cmp) c.requires.split) ∙ c.requires.earlier) (sym (ap (is_sorted path_cmp) split) ∙ c.requires.later) c.in-Less.ensures)

pub returns-in-Greater : goal.returns-in-Greater
returns-in-Greater g c =
    let split = c.in-Some.ensures.cases.0 in
    leads_along g.A.Stamped.stamp g.B.Stamped.stamp c.args.earlier.now (c.args.old.now ∷ c.args.olds.now) c.step_at-in-Greater.result.earlier.now (c.args.old.now ∷ c.args.olds.now) c.args.later.now (c.in-Some.new.now ∷ c.in-Some.news.now) c.step_at-in-Greater.result.later.now c.in-Some.news.now (some_told c.step_at-in-Greater.result.found) (at_path c.in-Some.new.now.0 (Some Added))
    c.requires.split split c.step_at-in-Greater.ensures.found (c.step_at-in-Greater.ensures.earlier ∙ c.requires.split) c.step_at-in-Greater.ensures.later
    (leads_greater g.A.Stamped.stamp g.B.Stamped.stamp c.args.old.now c.args.olds.now c.in-Some.new.now c.in-Some.news.now (sym (ap (is_sorted path_cmp) c.requires.split) ∙ c.requires.earlier) (sym (ap (is_sorted path_cmp) split) ∙ c.requires.later) c.in-Greater.ensures)

pub returns-in-Equal : goal.returns-in-Equal
returns-in-Equal g c =
    let split = c.in-Some.ensures.cases.0 in
    leads_along g.A.Stamped.stamp g.B.Stamped.stamp c.args.earlier.now (c.args.old.now ∷ c.args.olds.now) c.step_at-in-Equal.result.earlier.now c.args.olds.now c.args.later.now (c.in-Some.new.now ∷ c.in-Some.news.now) c.step_at-in-Equal.result.later.now c.in-Some.news.now (some_told c.step_at-in-Equal.result.found) (at_path c.args.old.now.0 c.kind_of_both.result)
    c.requires.split split c.step_at-in-Equal.ensures.found c.step_at-in-Equal.ensures.earlier c.step_at-in-Equal.ensures.later
    (leads_both g.A.Stamped.stamp g.B.Stamped.stamp c.args.old.now c.args.olds.now c.in-Some.new.now c.in-Some.news.now c.kind_of_both.result (sym (ap (is_sorted path_cmp) c.requires.split) ∙ c.requires.earlier) (sym (ap (is_sorted path_cmp) split) ∙ c.requires.later) c.in-Equal.ensures c.kind_of_both.ensures)
