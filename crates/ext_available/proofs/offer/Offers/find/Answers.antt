use Rattle.std.proofs.Common.{ap, ◌∙◌}
use Rattle.ext_available.specs.Offers.{first_offer, offers_from}
use Rattle.ext_available.proofs.OfferLemmas.{find_from}
use Rattle.ext_available.proofs.offer.Offers.find.Goals as goal

pub returns : goal.returns
returns c =
    c.first_offer.ensures ∙ ap (first_offer c.args.version.now) (c.offers_from.ensures ∙ ap (offers_from c.args.version.now) c.as_slice.ensures.same)
    ∙ find_from c.args.version.now c.args.self.now c.as_slice.ensures.ascending
