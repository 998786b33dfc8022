use Rattle.ext_publish.proofs.PublishingLemmas.{for_done, for_stopped}
use Rattle.ext_publish.proofs.publishing.publish_asked.Goals as goal

pub returns-in-Ok : goal.returns-in-Ok
returns-in-Ok g c = for_done c.in-Ok.made c.args.asked.now _ _ c.tell_done.result c.in-Ok.ensures c.tell_done.ensures

pub returns-in-Err : goal.returns-in-Err
returns-in-Err g c = for_stopped c.in-Err.stop c.args.asked.now _ _ c.tell_stop.result c.in-Err.ensures c.tell_stop.ensures
