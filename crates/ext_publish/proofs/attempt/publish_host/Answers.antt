use Rattle.std.proofs.lemmas.Result.{err_from_is_err_and}
use Rattle.ext_publish.proofs.AttemptLemmas.{attempts_done, attempts_memory, attempts_no_payload, attempts_stopped, readable_of}
use Rattle.ext_publish.proofs.attempt.publish_host.Goals as goal

pub returns-in_err-payload-clause-told : goal.returns-in_err-payload-clause-told
returns-in_err-payload-clause-told g c =
    let p = err_from_is_err_and c.from_residual.result c.from_residual.ensures.1 in
    rw (p.1, p.2)
    (attempts_no_payload _ (g.D.Disk.state c.args.store.now) c.args.host.now c.args.asked.now (g.O.Disk.state c.args.out.now) (g.met.O.Disk.holds_a_tree c.args.out.now) c.in_err-payload.ensures.err)

pub returns-in_err-made-clause-told : goal.returns-in_err-made-clause-told
returns-in_err-made-clause-told g c =
    let p = err_from_is_err_and c.from_residual-in_err-made.result c.from_residual-in_err-made.ensures.1 in
    rw (p.1, p.2)
    (λ s tells. attempts_memory _ c.args.asked.now (g.O.Disk.state c.args.out.now) (g.met.O.Disk.holds_a_tree c.args.out.now) c.in_err-made.ensures.err s)

pub publish_payload-requires-clause-readable : goal.publish_payload-requires-clause-readable
publish_payload-requires-clause-readable g c = readable_of c.args.host.now c.args.asked.now.path c.in_ok-payload.payload c.requires.served c.in_ok-payload.ensures.ok

pub returns-in_err-publish_payload-clause-told : goal.returns-in_err-publish_payload-clause-told
returns-in_err-publish_payload-clause-told g c =
    let p = err_from_is_err_and c.from_residual-in_err-publish_payload.result c.from_residual-in_err-publish_payload.ensures.1 in
    rw (p.1, p.2)
    (attempts_stopped (Unit {0}) _ (g.D.Disk.state c.args.store.now) c.args.host.now c.args.asked.now c.in_ok-payload.payload (g.O.Disk.state c.args.out.now).told (g.O.Disk.state c.publish_payload.new.out).told
    c.in_ok-payload.ensures.ok c.in_err-publish_payload.ensures.carries)

pub returns-clause-told : goal.returns-clause-told
returns-clause-told g c =
    attempts_done {T = Unit {0}} (tt {0}) c.in_ok-made.made (g.D.Disk.state c.args.store.now) c.args.host.now c.args.asked.now c.in_ok-payload.payload (g.O.Disk.state c.args.out.now).told (g.O.Disk.state c.publish_payload.new.out).told
    c.in_ok-payload.ensures.ok c.in_ok-made.ensures.made c.in_ok-publish_payload.ensures.carries
