use Rattle.std.specs.Result.{is_ok}
use Rattle.ext_gen.proofs.SyncingLemmas.{may_sync, syncs}
use Rattle.ext_gen.proofs.syncing.sync_store.Goals as goal

pub sync_dir-requires : goal.sync_dir-requires
sync_dir-requires g c = may_sync c.args.folder.now (g.D.Disk.state c.args.disk.now) c.requires (g.met.D.Disk.holds_a_tree c.args.disk.now)

pub returns-clause-does : goal.returns-clause-does
returns-clause-does g c = syncs c.args.folder.now (g.D.Disk.state c.args.disk.now) (g.D.Disk.state c.sync_dir.new.self) (is_ok c.sync_dir.result) c.requires c.sync_dir.ensures.does
