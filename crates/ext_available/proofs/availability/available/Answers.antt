use Rattle.std.proofs.Common.{List, arith, subst}
use Rattle.ext_available.specs.declared.offer.Offer.{Offer}
use Rattle.ext_available.specs.Available.{AreThoseOf}
use Rattle.ext_available.specs.Offers.{offered_versions}
use Rattle.ext_available.proofs.AvailableLemmas.{available_by}
use Rattle.ext_available.proofs.availability.available.Goals as goal

pub returns : goal.returns
returns c =
    let ts = c.args.transfers.now in
    let os = c.args.offers.now in
    let first = c.index-offers-0.result in
    let others = c.split_at.result.1.now in
    available_by ts os others first c.in_ok-found.found.items c.of.result (omega (arith, c.requires.some, c.requires.each)) c.index-offers-0.is
    c.split_at.ensures.back
    (subst (λ (x : List Offer). AreThoseOf ts others (offered_versions x) c.in_ok-found.found.items) c.as_slice.ensures.same c.in_ok-found.ensures) c.of.ensures
