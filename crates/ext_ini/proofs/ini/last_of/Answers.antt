use Rattle.std.proofs.Common.{sym, ◌∙◌}
use Rattle.ext_ini.proofs.SectionsLemmas.{section_found, section_passed}
use Rattle.ext_ini.proofs.ini.last_of.Goals as goal

pub returns-then-is_some : goal.returns-then-is_some
returns-then-is_some c =
    section_found c.sections.rest.now c.in-Some.before.now c.in-Some.section.now c.args.name.now c.args.key.now c.last_by-found.result c.in-Some.ensures.cases.0 c.last_by-found.ensures (sym c.is_some.ensures ∙ c.if-is_some.true)
    ∙ c.sections.invariant

pub sections-preserved : goal.sections-preserved
sections-preserved c =
    section_passed c.sections.rest.now c.in-Some.before.now c.in-Some.section.now c.args.name.now c.args.key.now c.last_by-found.result c.in-Some.ensures.cases.0 c.last_by-found.ensures (sym c.is_some.ensures ∙ c.if-is_some.false)
    ∙ c.sections.invariant
