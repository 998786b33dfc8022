use Rattle.std.proofs.Common.{Ok, Err, sym, subst}
use Rattle.std.specs.List.{AllByRecursion}
use Rattle.std.specs.Option.{option_copied}
use Rattle.std.proofs.lemmas.Result.{err_from_is_err_and}
use Rattle.ext_host.specs.Held.{HeldFile}
use Rattle.ext_configs.specs.declared.files.ConfigFile.{ConfigFile}
use Rattle.ext_configs.specs.declared.kind.ConfigKind.TheVariants as kinds
use Rattle.ext_feature.specs.Reading.{AreServed, IsFeatureName, ReadsFeatures}
use Rattle.ext_feature.proofs.ConfigLemmas.{are_served, feature_names}
use Rattle.ext_feature.proofs.StepLemmas.{features_known, features_unknown}
use Rattle.ext_feature.proofs.listing.features.Goals as goal

pub read_features-requires-clause-serves : goal.read_features-requires-clause-serves
read_features-requires-clause-serves g c =
    subst (AreServed (g.H.Shelf.serves c.args.shelf.now)) (sym c.as_slice.ensures.value)
    (are_served c.args.base.now (option_copied c.args.component) kinds.Feature (g.H.Shelf.serves c.args.shelf.now) c.in_ok-files.files.items c.requires c.in_ok-files.ensures)

pub read_features-requires-clause-names : goal.read_features-requires-clause-names
read_features-requires-clause-names g c =
    subst (AllByRecursion (λ (file : ConfigFile HeldFile). IsFeatureName file.name)) (sym c.as_slice.ensures.value)
    (feature_names c.args.base.now (option_copied c.args.component) c.in_ok-files.files.items c.in_ok-files.ensures)

pub returns-in_err-read-clause-gives : goal.returns-in_err-read-clause-gives
returns-in_err-read-clause-gives g c =
    let p = err_from_is_err_and c.from_residual-in_err-read.result c.from_residual-in_err-read.ensures.1 in
    let told = g.H.Shelf.told c.args.shelf.now in
    let old = g.H.Shelf.faults c.args.shelf.now in
    let new = g.H.Shelf.faults c.read_features.new.shelf in
    rw (p.1, p.2)
    (features_unknown told old new c.args.base.now (option_copied c.args.component) c.in_ok-files.files.items c.in_ok-files.ensures c.in_err-read.field-0.0
    (subst (λ files. ReadsFeatures told old new files (Err c.in_err-read.field-0.0)) c.as_slice.ensures.value c.in_err-read.ensures.gives))

pub returns-clause-gives : goal.returns-clause-gives
returns-clause-gives g c =
    let told = g.H.Shelf.told c.args.shelf.now in
    let old = g.H.Shelf.faults c.args.shelf.now in
    let new = g.H.Shelf.faults c.read_features.new.shelf in
    features_known told old new c.args.base.now (option_copied c.args.component) c.in_ok-files.files.items c.in_ok-files.ensures c.in_ok-read.read c.in_ok-in_name_order.field-0
    (subst (λ files. ReadsFeatures told old new files (Ok c.in_ok-read.read)) c.as_slice.ensures.value c.in_ok-read.ensures.gives) c.in_ok-in_name_order.ensures
