use Rattle.std.proofs.Common.{ap, sym, ◌∙◌}
use Rattle.std.specs.Str.{bytes_eq}
use Rattle.ext_ini.proofs.SectionsLemmas.{last_found}
use Rattle.ext_ini.proofs.sections.last_in.Goals as goal

pub returns-then-eq : goal.returns-then-eq
returns-then-eq c =
    let key = c.args.key.now in
    sym (last_found c.assignments.rest.now c.in-Some.before.now c.in-Some.assignment.now key c.in-Some.ensures.cases.0 (ap (λ t. bytes_eq t key) (sym c.bytes.ensures) ∙ sym c.if-eq.ensures))
    ∙ c.assignments.invariant
