use Rattle.std.proofs.Common.{ap, subst}
use Rattle.ext_transfer.specs.declared.err.TransferFault.TheVariants.{Link}
use Rattle.ext_transfer.specs.Fault.{GivesOrFaults, or_fault}
use Rattle.ext_transfer.proofs.PathLemmas.{named_in, unnamed_in}
use Rattle.ext_transfer.proofs.paths.name_in.Goals as goal

pub returns-in-Err-BadName : goal.returns-in-Err-BadName
returns-in-Err-BadName c =
    let other = rw c.in-Err-BadName.field-0-is at c.in-Err-BadName.ensures in
    rw c.bad.ensures (ap (λ o. or_fault o c.args.line Link) (unnamed_in c.args.directory.now c.args.text.now other))

pub returns-in-Ok : goal.returns-in-Ok
returns-in-Ok c =
    let same = named_in c.args.directory.now c.args.text.now c.in-Ok.name c.in-Ok.ensures.0 c.in-Ok.ensures.1 in
    subst (λ o. GivesOrFaults c.child.result (or_fault o c.args.line Link)) same c.child.ensures
