use Rattle.ext_homes.proofs.LeastLemmas.{Looked}
use Rattle.ext_homes.proofs.comparing.least_home.Given as goal

-- the files before are compared, and differ
abbrev pub invariant-loop-file : goal.invariant-loop-file
invariant-loop-file g l =
    Looked l.file-items l.held (g.D.Disk.state l.initial.disk) (g.D.Disk.state l.disk) (g.P.Depot.state l.initial.depot) (g.P.Depot.state l.depot) l.file-index
