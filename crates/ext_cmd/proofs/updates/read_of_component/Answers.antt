use Rattle.std.proofs.Common.{subst, sym}
use Rattle.std.proofs.lemmas.Result.{err_from_is_err_and}
use Rattle.ext_cmd.specs.Words.{IsPlainComponent}
use Rattle.ext_cmd.proofs.UpdateLemmas.{component_refused, verb_refused}
use Rattle.ext_cmd.proofs.updates.read_of_component.Goals as goal

pub returns-in_err-component : goal.returns-in_err-component
returns-in_err-component c =
    let p = err_from_is_err_and c.from_residual.result c.from_residual.ensures.1 in
    rw (p.1, p.2) (component_refused c.args.name.now c.args.more.now _ c.in_err-component.ensures)

pub returns-in_err-verb : goal.returns-in_err-verb
returns-in_err-verb c =
    let p = err_from_is_err_and c.from_residual-in_err-verb.result c.from_residual-in_err-verb.ensures.1 in
    let read = c.in_ok-component.ensures in
    rw (p.1, p.2) (verb_refused c.args.name.now c.args.more.now _ (subst IsPlainComponent (sym read.1) read.0) c.in_err-verb.ensures)
