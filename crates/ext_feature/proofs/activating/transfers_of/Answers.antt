use Rattle.std.proofs.Common.{◌≡◌, ◌<◌, length, sym, ap, ◌∙◌, subst, arith}
use Rattle.std.specs.Option.{option_copied}
use Rattle.std.proofs.lemmas.Bool.{eqb-false, eqb-true}
use Rattle.ext_configs.specs.declared.kind.ConfigKind.TheVariants as kinds
use Rattle.ext_feature.specs.Reading.{AreServed, ReadsTransfers}
use Rattle.ext_feature.proofs.ConfigLemmas.{are_served}
use Rattle.ext_feature.proofs.StepLemmas.{none_counts, transfers_known}
use Rattle.ext_feature.proofs.activating.transfers_of.Goals as goal

pub returns-then-is_empty-clause-gives : goal.returns-then-is_empty-clause-gives
returns-then-is_empty-clause-gives g c =
    let empty : length c.as_slice-all.result.now ≡ 0 = eqb-true (length c.as_slice-all.result.now) 0 (sym c.is_empty.ensures ∙ c.if-is_empty.true) in
    none_counts c.args.base.now (option_copied c.args.component) c.in_ok-files.files.items (ap length (sym c.as_slice-all.ensures.value) ∙ empty) c.in_ok-files.ensures

pub read_transfers-requires : goal.read_transfers-requires
read_transfers-requires g c =
    subst (AreServed (g.H.Shelf.serves c.args.shelf.now)) (sym c.as_slice-all.ensures.value)
    (are_served c.args.base.now (option_copied c.args.component) kinds.Transfer (g.H.Shelf.serves c.args.shelf.now) c.in_ok-files.files.items c.requires c.in_ok-files.ensures)

pub returns-clause-gives : goal.returns-clause-gives
returns-clause-gives g c =
    let told = g.H.Shelf.told c.args.shelf.now in
    let old = g.H.Shelf.faults c.args.shelf.now in
    let new = g.H.Shelf.faults c.read_transfers.new.shelf in
    let basis = c.args.basis.now in
    let some : 0 < length c.as_slice-all.result.now =
    let other = eqb-false (length c.as_slice-all.result.now) 0 (sym c.is_empty.ensures ∙ c.if-is_empty.false) in
    omega (arith, other) in
    transfers_known told old new c.args.base.now (option_copied c.args.component) basis.arch basis.host c.in_ok-files.files.items c.in_ok-files.ensures
    (subst (λ files. 0 < length files) c.as_slice-all.ensures.value some) c.read_transfers.result
    (subst (λ files. ReadsTransfers told old new basis.arch basis.host files c.read_transfers.result) c.as_slice-all.ensures.value c.read_transfers.ensures.gives)
