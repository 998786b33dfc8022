use Rattle.std.proofs.Common.{◌∙◌}
use Rattle.ext_ini.specs.Sections.{settings_of}
use Rattle.ext_ini.proofs.SectionsLemmas.{all_gathered, gathered_section}
use Rattle.ext_ini.proofs.ini.all_of.Goals as goal

pub returns-in-None : goal.returns-in-None
returns-in-None c =
    all_gathered c.sections.all (settings_of c.args.sections.now c.args.name.now c.args.key.now) c.sections.rest.now c.args.name.now c.args.key.now c.in-None.ensures.cases c.sections.invariant

pub sections-preserved : goal.sections-preserved
sections-preserved c =
    gathered_section c.sections.all c.gather_by.new.settings c.sections.rest.now c.in-Some.after.now c.in-Some.section.now c.args.name.now c.args.key.now c.in-Some.ensures.cases.0 c.in_ok-gather_by-in-Some.ensures
    ∙ c.sections.invariant
