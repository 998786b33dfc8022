use Rattle.std.proofs.Common.{length}
use Rattle.ext_top.specs.Applying.{PointsAs}
use Rattle.ext_top.specs.Devices.{store_side}
use Rattle.ext_top.proofs.TextLemmas.{GoesOn}
use Rattle.ext_top.proofs.lines.run_lines.Given as goal

-- the disk points to the generation that the store has, and the lines so far are done or refused
abbrev pub invariant-lines : goal.invariant-lines
invariant-lines g l =
    PointsAs (g.D.Disk.state l.disk) l.opened
    × GoesOn l.text l.rest l.initial.opened l.opened
    (store_side (g.K.Sink.state l.initial.sink) (g.D.Disk.state l.initial.disk) (g.P.Depot.state l.initial.depot) (g.O.Observer.state l.initial.observer))
    (store_side (g.K.Sink.state l.sink) (g.D.Disk.state l.disk) (g.P.Depot.state l.depot) (g.O.Observer.state l.observer))

abbrev pub decreases-lines : goal.decreases-lines
decreases-lines g l = length l.rest
