use Rattle.ext_mount.proofs.RunLemmas.{asked_is_run, wrong_run}
use Rattle.ext_mount.proofs.run.print_image.Goals as goal

pub returns-in-Ok : goal.returns-in-Ok
returns-in-Ok g c = asked_is_run c.args.words.now c.in-Ok.asked _ _ c.print_asked.result c.in-Ok.ensures.0 c.in-Ok.ensures.1 c.print_asked.ensures

pub returns-in-Err : goal.returns-in-Err
returns-in-Err g c =
    wrong_run c.args.words.now c.in-Err.refused.place (record { sink = g.K.Sink.state c.args.sink.now; store = g.D.Disk.state c.args.store.now }) (g.met.D.Disk.holds_a_tree c.args.store.now) c.in-Err.ensures
