use Rattle.std.proofs.Common.{◌≡◌, ℕ, List, take}
use Rattle.ext_disk.specs.DiskEntries.{place_at}
use Rattle.ext_disk.specs.Deeds.{empty_places, given_from}
use Rattle.ext_disk.proofs.stopped.disk_entries_of.Given as goal

-- the entries of what was given so far
abbrev pub invariant-given : goal.invariant-given
invariant-given l = (q : List (List ℕ)) → place_at l.disk_entries q ≡ given_from empty_places (take l.path-index l.given) q
