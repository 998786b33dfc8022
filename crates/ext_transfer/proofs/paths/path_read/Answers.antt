use Rattle.std.proofs.Common.{ap}
use Rattle.ext_transfer.specs.Fault.{or_fault}
use Rattle.ext_transfer.proofs.TestLemmas.{path_passes, path_refused}
use Rattle.ext_transfer.proofs.paths.path_read.Goals as goal

pub returns-in-Ok : goal.returns-in-Ok
returns-in-Ok c =
    ap (λ o. or_fault o c.args.line c.args.why) (path_passes c.args.text.now c.in-Ok.path c.in-Ok.ensures.0 c.in-Ok.ensures.1 c.in-Ok.ensures.2)

pub returns-in-Err : goal.returns-in-Err
returns-in-Err c = rw c.path_fault.ensures (path_refused c.args.text.now c.in-Err.refusal c.args.line c.args.why c.in-Err.ensures)
