use Rattle.std.proofs.Common.{◌≢◌, All, []}
use Rattle.ext_disk.specs.DiskEntries.{place_at}
use Rattle.ext_disk.specs.Picked.{picked_place}
use Rattle.ext_disk.proofs.StoppedLemmas.{IsGivenSoFar}
use Rattle.ext_disk.proofs.stopped.left_by_stop.Given as goal

-- what the stop left at the paths so far, none of which is the root
abbrev pub invariant-disk_entries : goal.invariant-disk_entries
invariant-disk_entries l = IsGivenSoFar (picked_place l.pick (place_at l.disk_entries)) l.given.items l.path-iterator × All (λ e. e.0 ≢ []) l.given.items
