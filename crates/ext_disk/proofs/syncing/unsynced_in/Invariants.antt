use Rattle.ext_disk.proofs.SyncingLemmas.{IsUnsyncedSoFar}
use Rattle.ext_disk.proofs.syncing.unsynced_in.Given as goal

-- the paths so far, and those of the entries that are left, are all of them
abbrev pub invariant-disk_entries : goal.invariant-disk_entries
invariant-disk_entries l = IsUnsyncedSoFar l.dir l.disk_entries l.paths.items l.path-iterator
