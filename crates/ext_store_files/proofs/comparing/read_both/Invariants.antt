use Rattle.std.proofs.Common.{◌≡◌, ◌-◌, min, length}
use Rattle.sha2.specs.Hashers.{Holds256}
use Rattle.ext_store_files.proofs.ComparingLemmas.{Both}
use Rattle.ext_store_files.proofs.comparing.read_both.Given as goal

-- what was read of the kept file is hashed, and as much of the other, and the buffers keep their lengths
abbrev pub invariant-pieces : goal.invariant-pieces
invariant-pieces g l =
    Both l.path l.from (g.D.Disk.state l.initial.disk) (g.D.Disk.state l.disk) (g.P.Depot.state l.fn.depot) (g.P.Depot.state l.depot) l.listed (Holds256 l.hasher) l.brought l.at
    × (length l.ours.items ≡ min 65536 l.listed.size)
    × (length l.theirs.items ≡ min 65536 l.listed.size)

abbrev pub decreases-pieces : goal.decreases-pieces
decreases-pieces g l = l.listed.size - l.at
