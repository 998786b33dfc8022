use Rattle.std.proofs.Common.{◌≡◌, ◌≢◌, ◌⊎◌, ◌-◌, ◌≤◌}
use Rattle.ext_disk.specs.Since.{Rests}
use Rattle.ext_host.specs.Shelf.{missing}
use Rattle.ext_store_files.specs.HeldFiles.{body_told}
use Rattle.ext_top.specs.Replying.{WritesMany}
use Rattle.ext_top.proofs.PiecesLemmas.{WritesFirst}
use Rattle.ext_top.proofs.replying.write_pieces.Given as goal

-- the first bytes were written, and where there were any, it is not told that no file stands there
abbrev pub invariant-pieces : goal.invariant-pieces
invariant-pieces g l =
    Rests (g.D.Disk.state l.initial.disk) (g.D.Disk.state l.disk)
    × ((g.K.Sink.state l.initial.sink).faults ≤ (g.K.Sink.state l.sink).faults)
    × (l.at ≤ l.held.stamp.size)
    × (l.size ≡ l.held.stamp.size)
    × WritesFirst (body_told (g.D.Disk.state l.initial.disk) l.held.body) l.held.stamp.size l.at (g.K.Sink.state l.initial.sink) (g.K.Sink.state l.sink)
    × WritesMany l.at (g.K.Sink.state l.initial.sink) (g.K.Sink.state l.sink)
    × ((l.at ≡ 0) ⊎ (body_told (g.D.Disk.state l.initial.disk) l.held.body ≢ missing))

abbrev pub decreases-pieces : goal.decreases-pieces
decreases-pieces g l = l.size - l.at
