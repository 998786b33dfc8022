use Rattle.std.proofs.Common.{Err, sym, subst}
use Rattle.ext_publish.specs.Attempting.{Attempts}
use Rattle.ext_publish.specs.declared.stop.Stop.{Stop}
use Rattle.ext_publish.proofs.AttemptLemmas.{attempts_opened, attempts_unopened}
use Rattle.ext_publish.proofs.attempt.attempt.Goals as goal

pub returns-in-Ok : goal.returns-in-Ok
returns-in-Ok g c =
    attempts_opened c.in-Ok.opened c.publish_opened.result c.args.asked.now (g.D.Disk.state c.args.store.now) (g.D.Disk.state c.open.new.disk) (g.D.Disk.state c.publish_opened.new.store) (g.O.Disk.state c.args.out.now)
    (g.O.Disk.state c.publish_opened.new.out) c.in-Ok.ensures.follows c.in-Ok.ensures.now c.in-Ok.ensures.stops c.in-Ok.ensures.says c.publish_opened.ensures.rests c.publish_opened.ensures.follows c.publish_opened.ensures.cause
    c.publish_opened.ensures.told

pub returns-in-Err : goal.returns-in-Err
returns-in-Err g c =
    subst (λ (s : Stop). Attempts (Err s) c.args.asked.now (g.D.Disk.state c.args.store.now) (g.D.Disk.state c.open.new.disk) (g.O.Disk.state c.args.out.now) (g.O.Disk.state c.args.out.now)) (sym c.stop_of_store.ensures)
    (attempts_unopened c.in-Err.unopened c.args.asked.now (g.D.Disk.state c.args.store.now) (g.D.Disk.state c.open.new.disk) (g.O.Disk.state c.args.out.now) c.in-Err.ensures.follows c.in-Err.ensures.now c.in-Err.ensures.stops
    c.in-Err.ensures.says c.in-Err.ensures.cause (g.met.O.Disk.holds_a_tree c.args.out.now))
