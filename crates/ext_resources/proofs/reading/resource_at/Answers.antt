use Rattle.std.proofs.Common.{arith, Err, Ok}
use Rattle.std.proofs.lemmas.Result.{IfOk-weaker, MatchResult-weaker}
use Rattle.ext_available.specs.Available.{IsOffered}
use Rattle.ext_resources.specs.declared.resource_err.ResourceErr.{ResourceErr}
use Rattle.ext_resources.specs.Resources.{IsResource}
use Rattle.ext_resources.specs.Told.{IsOfferTold, TellsResource}
use Rattle.ext_resources.specs.Wanted.{AreListed}
use Rattle.ext_resources.proofs.OfferLemmas.{both_at, each_at, is_offer, offer_sound, zip_length}
use Rattle.ext_resources.proofs.ResourceLemmas.{offer_resource}
use Rattle.ext_resources.proofs.ToldLemmas.{told_so}
use Rattle.ext_resources.proofs.reading.resource_at.Goals as goal

pub bounds-offers-place : goal.bounds-offers-place
bounds-offers-place g c = omega (arith, c.requires.within, zip_length AreListed c.args.transfers.now c.args.offers.now c.requires.listed)

pub offer_of-offer-requires : goal.offer_of-offer-requires
offer_of-offer-requires g c =
    each_at (IsOffered c.args.version.now) c.args.offers.now c.args.place c.index-offers-place.result c.requires.offered
    (omega (arith, c.requires.within, zip_length AreListed c.args.transfers.now c.args.offers.now c.requires.listed)) c.index-offers-place.is

pub resource_of-requires-clause-version : goal.resource_of-requires-clause-version
resource_of-requires-clause-version g c =
    (offer_sound c.index-transfers-place.result c.index-offers-place.result c.args.version.now c.offer_of-offer.result.now
    (both_at AreListed c.args.transfers.now c.args.offers.now c.args.place c.index-transfers-place.result c.index-offers-place.result c.requires.listed c.requires.within c.index-transfers-place.is c.index-offers-place.is)
    c.offer_of-offer.ensures.found).0

pub resource_of-requires-clause-listed : goal.resource_of-requires-clause-listed
resource_of-requires-clause-listed g c =
    (offer_sound c.index-transfers-place.result c.index-offers-place.result c.args.version.now c.offer_of-offer.result.now
    (both_at AreListed c.args.transfers.now c.args.offers.now c.args.place c.index-transfers-place.result c.index-offers-place.result c.requires.listed c.requires.within c.index-transfers-place.is c.index-offers-place.is)
    c.offer_of-offer.ensures.found).1

pub returns-clause-gives : goal.returns-clause-gives
returns-clause-gives g c =
    let files = (g.P.Depot.state c.args.depot.now).contents in
    let ts = c.args.transfers.now in
    let ss = c.args.offers.now in
    let v = c.args.version.now in
    let t = c.index-transfers-place.result in
    let o = c.offer_of-offer.result.now in
    let offer = is_offer ts ss v c.args.place t c.index-offers-place.result o c.requires.listed c.requires.within c.index-transfers-place.is c.index-offers-place.is c.offer_of-offer.ensures.found in
    IfOk-weaker c.resource_of.result (λ r. IsOfferTold files c.args.place t o v (Ok r)) (λ r. TellsResource files ts ss v c.args.place (Ok r))
    (λ r told. (t, o, offer, told)) c.resource_of.ensures.gives

pub returns-clause-refused : goal.returns-clause-refused
returns-clause-refused g c =
    let files = (g.P.Depot.state c.args.depot.now).contents in
    let ts = c.args.transfers.now in
    let ss = c.args.offers.now in
    let v = c.args.version.now in
    let t = c.index-transfers-place.result in
    let o = c.offer_of-offer.result.now in
    let offer = is_offer ts ss v c.args.place t c.index-offers-place.result o c.requires.listed c.requires.within c.index-transfers-place.is c.index-offers-place.is c.offer_of-offer.ensures.found in
    MatchResult-weaker c.resource_of.result c.resource_of.ensures.refused (λ r any. any)
    (told_so (λ (e : ResourceErr). IsOfferTold files c.args.place t o v (Err e)) (λ (e : ResourceErr). TellsResource files ts ss v c.args.place (Err e))
    (λ e told. (t, o, offer, told)))

pub returns-clause-resource : goal.returns-clause-resource
returns-clause-resource g c =
    let files = (g.P.Depot.state c.args.depot.now).contents in
    let ts = c.args.transfers.now in
    let ss = c.args.offers.now in
    let v = c.args.version.now in
    let t = c.index-transfers-place.result in
    let o = c.offer_of-offer.result.now in
    let offer = is_offer ts ss v c.args.place t c.index-offers-place.result o c.requires.listed c.requires.within c.index-transfers-place.is c.index-offers-place.is c.offer_of-offer.ensures.found in
    IfOk-weaker c.resource_of.result (λ r. IsOfferTold files c.args.place t o v (Ok r)) (IsResource ts ss v)
    (λ r told. offer_resource files ts ss v c.args.place t o r offer c.offer_of-offer.ensures.digest told) c.resource_of.ensures.gives
