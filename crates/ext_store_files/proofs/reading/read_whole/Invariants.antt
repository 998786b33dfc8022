use Rattle.std.proofs.Common.{◌≡◌, ◌+◌, ◌-◌, min, length}
use Rattle.ext_store_files.proofs.ReadingLemmas.{HasRead}
use Rattle.ext_store_files.proofs.reading.read_whole.Given as goal

-- what was read stands in the bytes, and the buffer keeps its length
abbrev pub invariant-pieces : goal.invariant-pieces
invariant-pieces g l =
    HasRead (g.D.Disk.state l.initial.disk) (g.D.Disk.state l.disk) l.path l.most l.bytes.items
    × (length l.buffer.items ≡ min 65536 (l.most + 1))

abbrev pub decreases-pieces : goal.decreases-pieces
decreases-pieces g l = l.most + 1 - length l.bytes.items
