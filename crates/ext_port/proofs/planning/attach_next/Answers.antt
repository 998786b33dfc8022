use Rattle.std.proofs.Common.{sym, subst}
use Rattle.ext_host.specs.Planning.{ServesHost}
use Rattle.ext_units.specs.Image.{ImagePlace}
use Rattle.ext_port.specs.Wants.{BarMemory, BodyWants, FitWants}
use Rattle.ext_port.proofs.PlanLemmas.{no_image, some_image}
use Rattle.ext_port.proofs.StartLemmas.{attach_through, base_served, serves_start}
use Rattle.ext_port.proofs.planning.attach_next.Goals as goal

pub attach_fit-requires-clause-serves : goal.attach_fit-requires-clause-serves
attach_fit-requires-clause-serves g c =
    let start = c.in_ok-start.start in
    base_served (g.H.Shelf.serves c.args.shelf.now) start.host.now start.base c.in_ok-start.ensures.start.base
    (subst (λ h. ServesHost (g.H.Shelf.serves c.args.shelf.now) h) (sym c.in_ok-start.ensures.host) (serves_start (g.H.Shelf.serves c.args.shelf.now) c.args.again c.args.ask.now.image c.args.host.now c.requires.serves))

pub returns-in-None-clause-gives : goal.returns-in-None-clause-gives
returns-in-None-clause-gives g c =
    let start = c.in_ok-start.start in
    no_image c.args.again c.args.host.now c.args.ask.now start c.in_ok-start.ensures.host c.in_ok-start.ensures.cut c.in_ok-start.ensures.start
    (g.H.Shelf.told c.args.shelf.now) (g.H.Shelf.faults c.args.shelf.now) (g.H.Shelf.faults c.args.shelf.now)
    (subst (ImagePlace start.base start.host.now.arch c.args.ask.now.image) c.in-None.is c.in_ok-image_at.ensures.place)

pub returns-clause-gives : goal.returns-clause-gives
returns-clause-gives g c =
    let start = c.in_ok-start.start in
    let told = g.H.Shelf.told c.args.shelf.now in
    let old = g.H.Shelf.faults c.args.shelf.now in
    let new = g.H.Shelf.faults c.attach_fit.new.shelf in
    some_image c.args.again c.args.host.now c.args.ask.now start c.in_ok-start.ensures.host c.in_ok-start.ensures.cut c.in_ok-start.ensures.start told old new c.in-Some.place
    (subst (ImagePlace start.base start.host.now.arch c.args.ask.now.image) c.in-Some.is c.in_ok-image_at.ensures.place) c.attach_fit.result
    (subst (λ o. BarMemory (FitWants o (BodyWants told old new start.host.now start.cut start.base c.args.ask.now c.in-Some.place)) c.attach_fit.result) c.unfit-refusal.ensures c.attach_fit.ensures.gives)

pub returns-clause-next : goal.returns-clause-next
returns-clause-next g c =
    attach_through c.args.host.now c.in_ok-start.start.host.now c.attach_fit.result c.in_ok-start.ensures.planned c.attach_fit.ensures.next
