use Rattle.std.proofs.Common.{drop}
use Rattle.std.specs.List.{AllByRecursion}
use Rattle.ext_depot.specs.Depot.{IsKept}
use Rattle.ext_resources.specs.Resources.{IsResource}
use Rattle.ext_resources.specs.Told.{TellsResource}
use Rattle.ext_resources.proofs.ToldLemmas.{GoesOn}
use Rattle.ext_resources.proofs.reading.resources.Given as goal

-- the depot is kept, what is told of the places that are left is told of all, after the resources so far, and each of these is one
abbrev pub invariant-loop-place : goal.invariant-loop-place
invariant-loop-place g l = record {
  kept : IsKept (g.P.Depot.state l.fn.depot) (g.P.Depot.state l.depot);
  so_far : GoesOn (TellsResource (g.P.Depot.state l.fn.depot).contents l.transfers l.offers l.version) l.place-items (drop l.place-index l.place-items) l.found.items;
  each : AllByRecursion (IsResource l.transfers l.offers l.version) l.found.items;
}
