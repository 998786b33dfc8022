use Rattle.std.proofs.Common.{Err}
use Rattle.ext_resources.specs.declared.resource_err.ResourceErr.{ResourceErr}
use Rattle.ext_resources.specs.Told.{IsContentTold, IsOfferTold}
use Rattle.ext_resources.proofs.ResourceLemmas.{offer_refused, offer_told}
use Rattle.ext_resources.proofs.ToldLemmas.{told_so}
use Rattle.ext_resources.proofs.reading.resource_of.Goals as goal

pub returns-in-Ok-clause-gives : goal.returns-in-Ok-clause-gives
returns-in-Ok-clause-gives g c =
    offer_told (g.P.Depot.state c.args.depot.now).contents c.args.place c.args.transfer.now c.args.offer.now c.args.version.now
    c.in_ok-name.name c.in_ok-source.source c.in_ok-listed.listed c.in-Ok.content
    c.in_ok-name.ensures c.in_ok-source.ensures c.in_ok-listed.ensures c.in-Ok.ensures.gives

pub returns-in-Err-clause-refused : goal.returns-in-Err-clause-refused
returns-in-Err-clause-refused g c =
    let files = (g.P.Depot.state c.args.depot.now).contents in
    let t = c.args.transfer.now in
    let o = c.args.offer.now in
    told_so (λ (e : ResourceErr). IsContentTold t.resources files c.in_ok-listed.listed o.digest (Err e)) (λ (e : ResourceErr). IsOfferTold files c.args.place t o c.args.version.now (Err e))
    (λ e told. offer_refused files c.args.place t o c.args.version.now c.in_ok-listed.listed e c.in_ok-listed.ensures told) c.in-Err.e c.in-Err.ensures.refused
