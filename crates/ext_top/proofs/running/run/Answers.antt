use Rattle.std.proofs.Common.{refl}
use Rattle.ext_top.specs.Devices.{states}
use Rattle.ext_top.specs.declared.status.Status.TheVariants.{Usage}
use Rattle.ext_top.proofs.ChangingLemmas.{run_stays_unless_changing}
use Rattle.ext_top.proofs.CompletingLemmas.{run_completes}
use Rattle.ext_top.proofs.RunsLemmas.{command_runs}
use Rattle.ext_top.proofs.running.run.Goals as goal

pub returns-in-Ok-clause-runs : goal.returns-in-Ok-clause-runs
returns-in-Ok-clause-runs g c = command_runs c.args.words.now c.in-Ok.command _ _ c.run_command.result c.in-Ok.ensures.0 c.in-Ok.ensures.1 c.run_command.ensures.runs

pub returns-in-Ok-clause-complete : goal.returns-in-Ok-clause-complete
returns-in-Ok-clause-complete g c =
    run_completes _ _ _ _ (command_runs c.args.words.now c.in-Ok.command _ _ c.run_command.result c.in-Ok.ensures.0 c.in-Ok.ensures.1 c.run_command.ensures.runs)

pub returns-in-Ok-clause-reading : goal.returns-in-Ok-clause-reading
returns-in-Ok-clause-reading g c =
    run_stays_unless_changing _ _ _ _ (command_runs c.args.words.now c.in-Ok.command _ _ c.run_command.result c.in-Ok.ensures.0 c.in-Ok.ensures.1 c.run_command.ensures.runs)

pub returns-in-Err-Usage-clause-complete : goal.returns-in-Err-Usage-clause-complete
returns-in-Err-Usage-clause-complete g c =
    let at = states g.S.Source.state g.K.Sink.state g.D.Disk.state g.P.Depot.state g.O.Observer.state c.args.devices.now in
    run_completes c.args.words.now at at (Usage c.in-Err-Usage.place) (rw c.in-Err-Usage.field-0-is at c.in-Err-Usage.ensures, refl)
