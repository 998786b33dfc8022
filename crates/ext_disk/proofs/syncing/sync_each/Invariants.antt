use Rattle.std.proofs.Common.{◌≡◌, ℕ, List, cond, take}
use Rattle.std.specs.List.{list_any}
use Rattle.std.specs.Ordering.{eq_by_cmp}
use Rattle.ext_text.specs.Path.{path_cmp}
use Rattle.ext_disk.specs.Calls.{synced}
use Rattle.ext_disk.specs.DiskEntries.{place_at}
use Rattle.ext_disk.proofs.syncing.sync_each.Given as goal

-- those so far are synced
abbrev pub invariant-paths : goal.invariant-paths
invariant-paths l = (q : List (List ℕ)) → place_at l.disk_entries q
    ≡ cond (list_any (eq_by_cmp path_cmp q) (take l.path-index l.paths)) (synced (place_at l.fn.disk_entries q)) (place_at l.fn.disk_entries q)
