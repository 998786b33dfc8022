use Rattle.std.proofs.Common.{drop}
use Rattle.ext_available.proofs.AvailableLemmas.{FindsOn}
use Rattle.ext_available.proofs.availability.available_of.Given as goal

-- what is found of the offers that are left is found of all, after what was found so far
abbrev pub invariant-loop-offer : goal.invariant-loop-offer
invariant-loop-offer l = record {
  so_far : FindsOn l.transfers l.offers l.some (drop l.offer-index l.some) l.found.items;
}
