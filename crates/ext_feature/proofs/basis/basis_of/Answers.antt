use Rattle.std.proofs.Common.{◌≡◌, Err, subst}
use Rattle.std.specs.Option.{option_copied}
use Rattle.std.proofs.lemmas.Result.{err_from_is_err_and}
use Rattle.ext_find.specs.HostRelease.{ReadsHost}
use Rattle.ext_feature.proofs.StepLemmas.{no_release}
use Rattle.ext_feature.proofs.basis.basis_of.Goals as goal

pub returns-in_err-host-clause-gives : goal.returns-in_err-host-clause-gives
returns-in_err-host-clause-gives g c =
    let p = err_from_is_err_and c.from_residual-in_err-host.result c.from_residual-in_err-host.ensures.1 in
    let told = g.H.Shelf.told c.args.shelf.now in
    let old = g.H.Shelf.faults c.args.shelf.now in
    let mid = g.H.Shelf.faults c.features.new.shelf in
    let new = g.H.Shelf.faults c.host_release.new.shelf in
    let same : g.H.Shelf.told c.features.new.shelf ≡ told = λ i held. g.met.H.Shelf.stays_laws.tells c.args.shelf.now c.features.new.shelf held c.in_ok-features.ensures.stays i in
    rw (p.1, p.2)
    (no_release told old new c.args.base.now (option_copied c.args.component) c.args.arch mid c.in_ok-features.features c.in_err-host.field-0.0 c.in_ok-features.ensures.count c.in_ok-features.ensures.gives
    (subst (λ t. ReadsHost c.args.base.now t mid new (Err c.in_err-host.field-0.0)) same c.in_err-host.ensures.gives))
