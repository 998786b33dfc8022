use Rattle.std.proofs.Common.{◌+◌, ◌∙◌, ◌++◌, ◌∷◌, [], take, sym, ap}
use Rattle.std.proofs.lemmas.List.{take_more}
use Rattle.ext_disk.specs.DiskEntries.{place_at}
use Rattle.ext_disk.proofs.SyncingLemmas.{sync_next}
use Rattle.ext_disk.proofs.syncing.sync_each.Goals as goal

pub paths-preserved : goal.paths-preserved
paths-preserved c =
    let paths = c.args.paths.now in
    let i = c.paths.path-index in
    let path = c.path-item.result in
    sync_next (place_at c.args.disk_entries.now) (place_at c.paths.disk_entries) (place_at c.sync_at.new.disk_entries) (take i paths) (take (i + 1) paths) path c.paths.invariant c.sync_at.ensures
    (take_more paths i path c.paths-test.true ∙ ap (λ p. take i paths ++ p ∷ []) (sym c.path-item.is))
