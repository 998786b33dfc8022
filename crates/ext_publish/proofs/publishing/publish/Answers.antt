use Rattle.std.proofs.Common.{sym, subst}
use Rattle.ext_publish.specs.Publishing.{PubDevices, Publishes}
use Rattle.ext_publish.specs.declared.status.PubStatus.{PubStatus}
use Rattle.ext_publish.proofs.PublishingLemmas.{asked_is_run, wrong_run}
use Rattle.ext_publish.proofs.publishing.publish.Goals as goal

pub returns-in-Ok : goal.returns-in-Ok
returns-in-Ok g c = asked_is_run c.args.words.now c.in-Ok.asked _ _ c.publish_asked.result c.in-Ok.ensures.0 c.in-Ok.ensures.1 c.publish_asked.ensures

pub returns-in-Err : goal.returns-in-Err
returns-in-Err g c =
    let devices : PubDevices = record { sink = g.K.Sink.state c.args.sink.now; store = g.D.Disk.state c.args.store.now; out = g.O.Disk.state c.args.out.now } in
    subst (λ (s : PubStatus). Publishes c.args.words.now devices devices s) (sym c.status_of_words.ensures)
    (wrong_run c.args.words.now c.in-Err.refused devices (g.met.D.Disk.holds_a_tree c.args.store.now) (g.met.O.Disk.holds_a_tree c.args.out.now) c.in-Err.ensures)
