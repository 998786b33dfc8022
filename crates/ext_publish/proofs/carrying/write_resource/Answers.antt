use Rattle.std.specs.Result.{is_ok}
use Rattle.ext_disk.proofs.ForCallers.{spares_then}
use Rattle.ext_publish.specs.Filling.{is_filled_at}
use Rattle.ext_publish.proofs.FoldersLemmas.{sync_spares}
use Rattle.ext_publish.proofs.StagesLemmas.{filled_synced}
use Rattle.ext_publish.proofs.carrying.write_resource.Goals as goal

pub returns-clause-spares : goal.returns-clause-spares
returns-clause-spares g c =
    spares_then (is_filled_at c.args.asked.now) (g.O.Disk.state c.args.out.now) (g.O.Disk.state c.fill.new.out) (g.O.Disk.state c.sync_at.new.out) c.in_ok-fill.ensures.spares
    (sync_spares (is_filled_at c.args.asked.now) _ (is_ok c.sync_at.result) (g.O.Disk.state c.fill.new.out) (g.O.Disk.state c.sync_at.new.out) c.sync_at.ensures.does)

pub returns-clause-written : goal.returns-clause-written
returns-clause-written g c =
    filled_synced c.sync_at.result (g.D.Disk.state c.args.store.now) c.args.asked.now c.args.payload.now c.folder.result.now (g.O.Disk.state c.fill.new.out) (g.O.Disk.state c.sync_at.new.out) c.folder.ensures.same
    c.in_ok-fill.ensures.filled c.sync_at.ensures.does
