use Rattle.std.proofs.Common.{◌≡◌, ◌-◌, min, length}
use Rattle.sha2.specs.Hashers.{Holds256}
use Rattle.ext_store_files.proofs.HashingLemmas.{HasHashed}
use Rattle.ext_store_files.proofs.hashing.hash_whole.Given as goal

-- what was read is hashed, and the buffer keeps its length
abbrev pub invariant-pieces : goal.invariant-pieces
invariant-pieces g l =
    HasHashed (g.D.Disk.state l.initial.disk) (g.D.Disk.state l.disk) l.path l.size (Holds256 l.hasher) l.at
    × (length l.buffer.items ≡ min 65536 l.size)

abbrev pub decreases-pieces : goal.decreases-pieces
decreases-pieces g l = l.size - l.at
