use Rattle.std.proofs.Common.{◌≡◌, ◌++◌, drop}
use Rattle.ext_available.specs.Offers.{offered_versions}
use Rattle.ext_available.proofs.offer.versions_of.Given as goal

-- the versions so far and those of the offers that are left are those of all
abbrev pub invariant-loop-offer : goal.invariant-loop-offer
invariant-loop-offer l = record {
  whole : l.versions.items ++ offered_versions (drop l.offer-index l.offers) ≡ offered_versions l.offers;
}
