use Rattle.std.proofs.Common.{refl, sym, subst}
use Rattle.ext_mount.specs.Printing.{ImageDevices, PrintsFor}
use Rattle.ext_mount.specs.declared.status.ImageStatus.{ImageStatus}
use Rattle.ext_mount.proofs.RunLemmas.{for_opened, for_unopened}
use Rattle.ext_mount.proofs.run.print_asked.Goals as goal

pub returns-in-Ok : goal.returns-in-Ok
returns-in-Ok g c =
    for_opened c.in-Ok.opened c.args.asked _ _ c.print_opened.result c.in-Ok.ensures.follows c.in-Ok.ensures.now c.in-Ok.ensures.stops c.in-Ok.ensures.says c.print_opened.ensures

pub returns-in-Err : goal.returns-in-Err
returns-in-Err g c =
    let old : ImageDevices = record { sink = g.K.Sink.state c.args.sink.now; store = g.D.Disk.state c.args.store.now } in
    let new : ImageDevices = record { sink = g.K.Sink.state c.args.sink.now; store = g.D.Disk.state c.open.new.disk } in
    subst (λ (s : ImageStatus). PrintsFor c.args.asked old new s) (sym c.status_of_store.ensures)
    (for_unopened c.in-Err.unopened c.args.asked old new refl c.in-Err.ensures.follows c.in-Err.ensures.now c.in-Err.ensures.stops c.in-Err.ensures.says c.in-Err.ensures.cause)
