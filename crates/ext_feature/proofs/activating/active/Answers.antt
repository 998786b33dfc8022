use Rattle.std.proofs.Common.{◌≡◌, Ok, Err, subst}
use Rattle.std.specs.Option.{option_copied}
use Rattle.std.proofs.lemmas.Result.{err_from_is_err_and}
use Rattle.ext_feature.specs.Steps.{Chooses, TransfersGive}
use Rattle.ext_feature.proofs.StepLemmas.{active_bounds, known_on, no_transfers}
use Rattle.ext_feature.proofs.activating.active.Goals as goal

pub returns-in_err-transfers-clause-gives : goal.returns-in_err-transfers-clause-gives
returns-in_err-transfers-clause-gives g c =
    let p = err_from_is_err_and c.from_residual-in_err-transfers.result c.from_residual-in_err-transfers.ensures.1 in
    let told = g.H.Shelf.told c.args.shelf.now in
    let old = g.H.Shelf.faults c.args.shelf.now in
    let mid = g.H.Shelf.faults c.basis_of.new.shelf in
    let new = g.H.Shelf.faults c.transfers_of.new.shelf in
    let es = c.args.base.now in
    let component = option_copied c.args.component in
    let basis = c.in_ok-basis.basis in
    let same : g.H.Shelf.told c.basis_of.new.shelf ≡ told = λ i held. g.met.H.Shelf.stays_laws.tells c.args.shelf.now c.basis_of.new.shelf held c.in_ok-basis.ensures.stays i in
    rw (p.1, p.2)
    (no_transfers told old new es component c.args.arch basis.features basis.host c.in_ok-basis.ensures.gives.0 mid c.in_err-transfers.field-0.0 c.in_ok-basis.ensures.count
    (subst (λ t. TransfersGive t mid new es c.args.arch basis.host component (Err c.in_err-transfers.field-0.0)) same
    (subst (λ arch. TransfersGive (g.H.Shelf.told c.basis_of.new.shelf) mid new es arch basis.host component (Err c.in_err-transfers.field-0.0)) c.in_ok-basis.ensures.gives.1 c.in_err-transfers.ensures.gives)))

pub returns-clause-gives : goal.returns-clause-gives
returns-clause-gives g c =
    let told = g.H.Shelf.told c.args.shelf.now in
    let old = g.H.Shelf.faults c.args.shelf.now in
    let mid = g.H.Shelf.faults c.basis_of.new.shelf in
    let new = g.H.Shelf.faults c.transfers_of.new.shelf in
    let es = c.args.base.now in
    let component = option_copied c.args.component in
    let basis = c.in_ok-basis.basis in
    let same : g.H.Shelf.told c.basis_of.new.shelf ≡ told = λ i held. g.met.H.Shelf.stays_laws.tells c.args.shelf.now c.basis_of.new.shelf held c.in_ok-basis.ensures.stays i in
    known_on told old new es component c.args.arch basis.features basis.host c.in_ok-basis.ensures.gives.0 mid new c.in_ok-transfers.transfers c.those_on.result
    (subst (λ t. TransfersGive t mid new es c.args.arch basis.host component (Ok c.in_ok-transfers.transfers)) same
    (subst (λ arch. TransfersGive (g.H.Shelf.told c.basis_of.new.shelf) mid new es arch basis.host component (Ok c.in_ok-transfers.transfers)) c.in_ok-basis.ensures.gives.1 c.in_ok-transfers.ensures.gives))
    (subst (λ features. Chooses features c.in_ok-transfers.transfers c.those_on.result) c.as_slice.ensures c.those_on.ensures)

pub returns-clause-bounds : goal.returns-clause-bounds
returns-clause-bounds g c =
    active_bounds (g.H.Shelf.told c.args.shelf.now) (g.H.Shelf.faults c.args.shelf.now) (g.H.Shelf.faults c.transfers_of.new.shelf) c.args.base.now c.args.arch (option_copied c.args.component) c.those_on.result (returns-clause-gives g c)
