use Rattle.ext_publish.proofs.StagesLemmas.{carries_refused}
use Rattle.ext_publish.proofs.carrying.publish_payload.Goals as goal

pub returns-in-Err-clause-carries : goal.returns-in-Err-clause-carries
returns-in-Err-clause-carries g c =
    carries_refused (Unit {0}) c.args.asked.now c.args.payload.now _ _ (g.D.Disk.state c.args.store.now) (g.O.Disk.state c.args.out.now) (g.O.Disk.state c.look_at.new.out) c.requires.asked (g.met.O.Disk.holds_a_tree c.args.out.now)
    c.in-Err.ensures.rests c.stop_of_look.ensures c.in-Err.ensures.cause
