use Rattle.std.proofs.Common.{drop}
use Rattle.ext_depot.specs.Depot.{IsKept}
use Rattle.ext_available.proofs.ReadingLemmas.{GoesOn}
use Rattle.ext_available.proofs.reading.offers.Given as goal

-- the depot is kept, and what is told of the transfers that are left is told of all, after the offers so far
abbrev pub invariant-loop-transfer : goal.invariant-loop-transfer
invariant-loop-transfer g l = record {
  kept : IsKept (g.P.Depot.state l.fn.depot) (g.P.Depot.state l.depot);
  so_far : GoesOn (g.P.Depot.state l.fn.depot).contents l.transfers (drop l.transfer-index l.transfers) l.all.items;
}
