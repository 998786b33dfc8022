use Rattle.std.proofs.Common.{rules}
use Rattle.std.proofs.lemmas.Result.{err_from_is_err_and}
use Rattle.ext_intents.specs.Causes.{IsStepFile}
use Rattle.ext_intents.proofs.ForCallers.{first_wants_fit}
use Rattle.ext_top.proofs.SeenLemmas.{opened_before, opened_serves, step_cause, step_fits, step_wants}
use Rattle.ext_top.proofs.applying.intended.Goals as goal

pub returns-in_ok-first_step-in-None-clause-fit : goal.returns-in_ok-first_step-in-None-clause-fit
returns-in_ok-first_step-in-None-clause-fit g c = rw c.in-None.is (first_wants_fit 1 c.args.command.now _ c.requires.formed c.in_ok-first_step-in-None.ensures)

pub step-requires-clause-serves : goal.step-requires-clause-serves
step-requires-clause-serves g c = opened_serves c.in-Some.opened c.host.result.now c.host.ensures.same c.host.ensures.opened

pub step-requires-clause-before : goal.step-requires-clause-before
step-requires-clause-before g c = opened_before c.in-Some.opened c.host.result.now c.generation.result c.host.ensures.same c.generation.ensures.same c.host.ensures.opened

pub returns-in_err-step-in-Some-clause-cause : goal.returns-in_err-step-in-Some-clause-cause
returns-in_err-step-in-Some-clause-cause g c =
    let p = err_from_is_err_and c.from_residual-in_err-step-in-Some.result c.from_residual-in_err-step-in-Some.ensures.1 in
    let cause = step_cause (IsStepFile c.in-Some.opened.host c.args.command.now) c.in-Some.opened (g.D.Disk.state c.args.disk.now) (g.D.Disk.state c.step.new.shelf.disk.now) (g.P.Depot.state c.args.depot.now) (g.P.Depot.state c.step.new.depot) _ (rw c.host.ensures.same at c.in_err-step-in-Some.ensures.cause) in
    rw (p.1, p.2, c.in-Some.is) (search rules)

pub returns-in_ok-step-in-Some-clause-wants : goal.returns-in_ok-step-in-Some-clause-wants
returns-in_ok-step-in-Some-clause-wants g c =
    rw c.in-Some.is (step_wants c.in-Some.opened (g.D.Disk.state c.args.disk.now) (g.P.Depot.state c.args.depot.now).contents c.args.command.now _ c.host.result.now c.generation.result c.text-newest.result c.host.ensures.same c.generation.ensures.same c.text-newest.ensures.same c.in_ok-step-in-Some.ensures.wants)

pub returns-in_ok-step-in-Some-clause-fit : goal.returns-in_ok-step-in-Some-clause-fit
returns-in_ok-step-in-Some-clause-fit g c =
    let files = (g.P.Depot.state c.args.depot.now).contents in
    let wants = step_wants c.in-Some.opened (g.D.Disk.state c.args.disk.now) files c.args.command.now _ c.host.result.now c.generation.result c.text-newest.result c.host.ensures.same c.generation.ensures.same c.text-newest.ensures.same c.in_ok-step-in-Some.ensures.wants in
    rw c.in-Some.is (step_fits c.in-Some.opened (g.D.Disk.state c.args.disk.now) files c.args.command.now _ c.host.ensures.opened wants)
