use Rattle.std.proofs.Common.{◌≡◌, ◌-◌, min, length}
use Rattle.sha2.specs.Hashers.{Holds256}
use Rattle.ext_store_files.specs.HeldFiles.{body_told}
use Rattle.ext_publish.proofs.CopyingLemmas.{IsCopying}
use Rattle.ext_publish.proofs.copying.copy_pieces.Given as goal

-- what was read is hashed and appended, and the buffer keeps its length
abbrev pub invariant-pieces : goal.invariant-pieces
invariant-pieces g l =
    IsCopying (body_told (g.D.Disk.state l.initial.store) l.held.body) l.path (g.D.Disk.state l.initial.store) (g.D.Disk.state l.store) (g.O.Disk.state l.initial.out) (g.O.Disk.state l.out) l.size
    (Holds256 l.hasher) l.at
    × (length l.buffer ≡ min 65536 l.size)

abbrev pub decreases-pieces : goal.decreases-pieces
decreases-pieces g l = l.size - l.at
