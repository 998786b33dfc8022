use Rattle.std.proofs.Common.{◌-◌, ◌≤◌, length, take}
use Rattle.ext_store_files.proofs.WritingLemmas.{HasAppended}
use Rattle.ext_store_files.proofs.writing.append_all.Given as goal

-- a prefix of the bytes was appended
abbrev pub invariant-pieces : goal.invariant-pieces
invariant-pieces g l =
    HasAppended l.path (g.D.Disk.state l.initial.disk) (g.D.Disk.state l.disk) (take l.at l.bytes)
    × (l.at ≤ length l.bytes)

abbrev pub decreases-pieces : goal.decreases-pieces
decreases-pieces g l = length l.bytes - l.at
