use Rattle.std.proofs.lemmas.Result.{on_ok_weaker}
use Rattle.ext_store_files.specs.Copying.{depot_told}
use Rattle.ext_store_files.proofs.CopyingLemmas.{copied_then, keeps_then, kept_itself}
use Rattle.ext_store_files.proofs.copying.copy_there.Goals as goal

pub returns-in-Ok-clause-keeps : goal.returns-in-Ok-clause-keeps
returns-in-Ok-clause-keeps g c =
    keeps_then c.args.path.now c.args.listed.now.size _ (g.D.Disk.state c.make_empty.new.disk) _ _ (g.P.Depot.state c.args.depot.now) _ c.in-Ok.ensures.works (kept_itself _) c.fill.ensures.keeps

pub returns-in-Ok-clause-copied : goal.returns-in-Ok-clause-copied
returns-in-Ok-clause-copied g c =
    on_ok_weaker c.fill.result
    (λ copied. copied_then (depot_told (g.P.Depot.state c.args.depot.now) c.args.from.now) c.args.listed.now c.args.path.now (g.D.Disk.state c.args.disk.now) (g.D.Disk.state c.make_empty.new.disk)
    (g.D.Disk.state c.fill.new.disk) c.in-Ok.ensures.works copied) c.fill.ensures.copied
