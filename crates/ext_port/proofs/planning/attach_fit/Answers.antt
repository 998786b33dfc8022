use Rattle.std.proofs.Common.{◌≡◌, Err, refl, sym, subst}
use Rattle.ext_port.specs.Wants.{BarMemory, BodyWants, FitWants}
use Rattle.ext_port.proofs.WantsLemmas.{bar_from}
use Rattle.ext_port.proofs.planning.attach_fit.Goals as goal

pub returns-in-Some-clause-gives : goal.returns-in-Some-clause-gives
returns-in-Some-clause-gives g c =
    let start = c.args.start.now in
    let told = g.H.Shelf.told c.args.shelf.now in
    let faults = g.H.Shelf.faults c.args.shelf.now in
    subst (λ o. BarMemory (FitWants o (BodyWants told faults faults start.host.now start.cut start.base c.args.ask.now c.args.place)) (Err c.in-Some.refusal)) (sym c.in-Some.is)
    (bar_from (λ r. r ≡ Err c.in-Some.refusal) (Err c.in-Some.refusal) refl)

pub returns-in-None-clause-gives : goal.returns-in-None-clause-gives
returns-in-None-clause-gives g c =
    let start = c.args.start.now in
    let told = g.H.Shelf.told c.args.shelf.now in
    let old = g.H.Shelf.faults c.args.shelf.now in
    let new = g.H.Shelf.faults c.attach_place.new.shelf in
    subst (λ o. BarMemory (FitWants o (BodyWants told old new start.host.now start.cut start.base c.args.ask.now c.args.place)) c.attach_place.result) (sym c.in-None.is)
    c.attach_place.ensures.gives
