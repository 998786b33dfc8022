use Rattle.ext_intents.proofs.UpdateStepLemmas.{told_as_many}
use Rattle.ext_intents.proofs.updates.updates_of_transfers.Goals as goal

pub updates_of_offers-requires-clause-offered : goal.updates_of_offers-requires-clause-offered
updates_of_offers-requires-clause-offered g c =
    let many = told_as_many (g.P.Depot.state c.args.depot.now).contents c.as_slice.result.now c.in-Ok.offers.items c.in-Ok.ensures.gives in
    cc (many, c.from_vec-offers.ensures, c.as_slice.ensures)
