use Rattle.std.proofs.Common.{◌∙◌, sym, ap}
use Rattle.ext_disk.specs.DiskEntries.{place_at}
use Rattle.ext_disk.proofs.SyncingLemmas.{sync_none}
use Rattle.ext_disk.proofs.syncing.sync_at.Goals as goal

pub returns-in_default : goal.returns-in_default
returns-in_default c = λ q.
    ap (λ m. place_at m q) c.get_mut.follows.holds-at-none ∙ sync_none c.args.disk_entries.now c.args.path.now (sym c.in_default.ensures.value) q
