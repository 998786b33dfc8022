use Rattle.std.proofs.Common.{◌≡◌, ℕ, ◌≤◌, true, take}
use Rattle.ext_disk.specs.Disk.{is_synced}
use Rattle.ext_disk.specs.DiskEntries.{place_at}
use Rattle.ext_disk.proofs.disk_entries.is_synced_to.Given as goal

-- each prefix so far is synced
abbrev pub invariant-names : goal.invariant-names
invariant-names l = (k : ℕ) → k ≤ l.count → is_synced (place_at l.disk_entries (take k l.path)) ≡ true
