use Rattle.std.proofs.Common.{sym, subst}
use Rattle.std.proofs.lemmas.Result.{err_from_is_err_and}
use Rattle.ext_disk.specs.Disk.{BothTold}
use Rattle.ext_gen.specs.Opening.{OpensTold}
use Rattle.ext_gen.proofs.OpeningLemmas.{barrier_opens, barrier_says, barrier_stops}
use Rattle.ext_gen.proofs.opening.open.Goals as goal

pub returns-clause-says : goal.returns-clause-says
returns-clause-says g c =
    barrier_says c.read_store.result (g.D.Disk.state c.args.disk.now) (g.D.Disk.state c.sync_store.new.disk) c.in_ok-sync_store.ensures.does c.read_store.ensures.says

pub returns-clause-stops : goal.returns-clause-stops
returns-clause-stops g c =
    barrier_opens c.read_store.result (g.D.Disk.state c.args.disk.now) (g.D.Disk.state c.sync_store.new.disk) (g.D.Disk.state c.read_store.new.disk)
    (g.met.D.Disk.holds_a_tree c.args.disk.now) c.in_ok-sync_store.ensures.does c.read_store.ensures.rests c.read_store.ensures.says

pub returns-in_err-sync_store-clause-stops : goal.returns-in_err-sync_store-clause-stops
returns-in_err-sync_store-clause-stops g c =
    let p = err_from_is_err_and c.from_residual.result c.from_residual.ensures.1 in
    subst (λ r. BothTold (OpensTold r) (g.D.Disk.state c.args.disk.now).told (g.D.Disk.state c.sync_store.new.disk).told) (sym p.1)
    (barrier_stops p.0 (g.D.Disk.state c.args.disk.now) (g.D.Disk.state c.sync_store.new.disk)
    (g.met.D.Disk.holds_a_tree c.args.disk.now) c.in_err-sync_store.ensures.does)
