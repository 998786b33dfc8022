use Rattle.std.proofs.lemmas.Result.{on_ok_weaker}
use Rattle.ext_store_files.specs.Copying.{depot_told}
use Rattle.ext_store_files.proofs.CopyingLemmas.{keeps_synced, copied_whole, equal_stamps}
use Rattle.ext_store_files.proofs.copying.fill.Goals as goal

pub returns-then-eq-clause-keeps : goal.returns-then-eq-clause-keeps
returns-then-eq-clause-keeps g c =
    keeps_synced c.args.path.now c.args.listed.now.size _ (g.D.Disk.state c.feed.new.disk) _ _ _ c.in_ok-found.ensures.keeps c.sync.ensures.works

pub returns-then-eq-clause-copied : goal.returns-then-eq-clause-copied
returns-then-eq-clause-copied g c =
    on_ok_weaker c.sync.result
    (λ hard. copied_whole (depot_told (g.P.Depot.state c.args.depot.now) c.args.from.now) c.args.listed.now c.in_ok-found.found c.args.path.now
    (g.D.Disk.state c.args.disk.now) (g.D.Disk.state c.feed.new.disk) (g.D.Disk.state c.sync.new.disk) (equal_stamps c.in_ok-found.found c.args.listed.now c.if-eq.ensures) c.in_ok-found.ensures.fed c.sync.ensures.works hard)
    c.sync.ensures.synced
