use Rattle.std.proofs.Common.{◌≡◌, true, Err, Option, sym, subst}
use Rattle.std.proofs.lemmas.Result.{err_from_is_err_and}
use Rattle.ext_disk.specs.Disk.{BothTold}
use Rattle.ext_disk.proofs.ForCallers.{follows_then}
use Rattle.ext_host.specs.Drawn.{HasFile}
use Rattle.ext_host.specs.Held.{HeldFile}
use Rattle.ext_host.specs.declared.host.Host.{Host}
use Rattle.ext_store_files.specs.HeldFiles.{is_served}
use Rattle.ext_gen.specs.Opened.{Generation}
use Rattle.ext_gen.specs.Store.{State}
use Rattle.ext_published.specs.declared.refusal.PubRefusal.TheVariants.{NoStore}
use Rattle.ext_publish.specs.Attempting.{AttemptsOn, TellsHost, TellsOpened}
use Rattle.ext_publish.specs.declared.stop.Stop.TheVariants as stops
use Rattle.ext_publish.proofs.AttemptLemmas.{attempts_nothing, attempts_synced, attempts_unsynced}
use Rattle.ext_publish.proofs.StoreLemmas.{opened_serves}
use Rattle.ext_publish.proofs.attempt.publish_opened.Goals as goal

pub returns-in_err-sync_above-clause-told : goal.returns-in_err-sync_above-clause-told
returns-in_err-sync_above-clause-told g c =
    let p = err_from_is_err_and c.from_residual.result c.from_residual.ensures.1 in
    rw (p.1, p.2)
    (attempts_unsynced _ (g.D.Disk.state c.args.store.now) c.args.opened c.args.asked.now (g.O.Disk.state c.args.out.now) (g.O.Disk.state c.sync_above.new.out) (g.met.O.Disk.holds_a_tree c.args.out.now)
    c.in_err-sync_above.ensures.works c.in_err-sync_above.ensures.cause)

pub publish_host-requires-clause-served : goal.publish_host-requires-clause-served
publish_host-requires-clause-served g c =
    subst (λ (h : Host). (held : HeldFile) → HasFile h.root held → is_served held.body ≡ true) (sym c.into_host-host.ensures.same) (opened_serves c.in-Some.opened c.into_host-host.ensures.opened)

pub returns-in-None-clause-told : goal.returns-in-None-clause-told
returns-in-None-clause-told g c =
    subst
    (λ (o : Option Generation).
    (s : State) → TellsOpened (g.D.Disk.state c.args.store.now) o s
    → BothTold (AttemptsOn (Err (stops.Refused NoStore)) s c.args.asked.now) (g.O.Disk.state c.args.out.now).told (g.O.Disk.state c.sync_above.new.out).told)
    (sym c.in-None.is)
    (attempts_nothing (g.D.Disk.state c.args.store.now) c.args.asked.now (g.O.Disk.state c.args.out.now) (g.O.Disk.state c.sync_above.new.out) (g.met.O.Disk.holds_a_tree c.args.out.now) c.in_ok-sync_above.ensures.works)

pub returns-in-Some-clause-follows : goal.returns-in-Some-clause-follows
returns-in-Some-clause-follows g c =
    follows_then (g.O.Disk.state c.args.out.now) (g.O.Disk.state c.sync_above.new.out) (g.O.Disk.state c.publish_host.new.out) c.in_ok-sync_above.ensures.works.spares.follows c.publish_host.ensures.follows

pub returns-in-Some-clause-told : goal.returns-in-Some-clause-told
returns-in-Some-clause-told g c = λ s tells.
    attempts_synced c.publish_host.result c.args.asked.now s (g.O.Disk.state c.args.out.now) (g.O.Disk.state c.sync_above.new.out) (g.O.Disk.state c.publish_host.new.out) (g.met.O.Disk.holds_a_tree c.args.out.now)
    c.in_ok-sync_above.ensures.works c.publish_host.ensures.follows
    (c.publish_host.ensures.told s (subst (λ (h : Host). TellsHost (g.D.Disk.state c.args.store.now) h s) (sym c.into_host-host.ensures.same) (subst (λ (o : Option Generation). TellsOpened (g.D.Disk.state c.args.store.now) o s) c.in-Some.is tells)))
