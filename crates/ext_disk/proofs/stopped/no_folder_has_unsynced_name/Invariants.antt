use Rattle.std.proofs.Common.{◌≡◌, ℕ, ◌<◌, not, true, take}
use Rattle.ext_disk.specs.DiskEntries.{place_at}
use Rattle.ext_disk.proofs.stopped.no_folder_has_unsynced_name.Given as goal

-- no prefix shorter than this one has an unsynced name
abbrev pub invariant-names : goal.invariant-names
invariant-names l = (k : ℕ) → k < l.count → not (place_at l.disk_entries (take k l.path)).unsynced_name ≡ true
