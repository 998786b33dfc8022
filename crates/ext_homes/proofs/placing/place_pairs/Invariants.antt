use Rattle.std.proofs.Common.{drop, take}
use Rattle.ext_homes.proofs.PlacingLemmas.{Going}
use Rattle.ext_homes.proofs.placing.place_pairs.Given as goal

-- the entries so far have their homes
abbrev pub invariant-pairs : goal.invariant-pairs
invariant-pairs g l =
    Going l.kept l.generation l.fn.files l.fn.pairs (drop l.pair-index l.pairs) (take l.pair-index l.pairs) l.files
    (g.D.Disk.state l.initial.disk) (g.D.Disk.state l.disk) (g.P.Depot.state l.initial.depot) (g.P.Depot.state l.depot)
