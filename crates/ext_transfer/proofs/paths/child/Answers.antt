use Rattle.std.proofs.Common.{◌++◌, ◌∷◌, [], ap}
use Rattle.ext_transfer.specs.declared.err.TransferFault.TheVariants.{Link}
use Rattle.ext_transfer.specs.Fault.{or_fault}
use Rattle.ext_transfer.proofs.PathLemmas.{longer, too_long}
use Rattle.ext_transfer.proofs.paths.child.Goals as goal

pub returns-in-Ok : goal.returns-in-Ok
returns-in-Ok c =
    ap (λ o. or_fault o c.args.line Link) (longer (c.args.directory.now ++ c.args.name.now ∷ []) c.in-Ok.path c.in-Ok.ensures.0 c.in-Ok.ensures.1)

pub returns-in-Err : goal.returns-in-Err
returns-in-Err c =
    rw c.path_fault.ensures (too_long (c.args.directory.now ++ c.args.name.now ∷ []) c.in-Err.refusal c.args.line Link c.in-Err.ensures)
