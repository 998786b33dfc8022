use Rattle.std.proofs.Common.{refl, sym, ap, ◌∙◌, subst, length, ◌<◌, List, ℕ}
use Rattle.std.specs.Prelude.{slice_get}
use Rattle.std.specs.Option.{option_copied}
use Rattle.std.proofs.lemmas.Option.{slice_get_read, slice_get_within}
use Rattle.ext_choice.specs.declared.choosing.Choice.TheVariants.{Install}
use Rattle.ext_update.specs.Update.{UpdateWants, VersionWants}
use Rattle.ext_update.proofs.PlanLemmas.{if_ok}
use Rattle.ext_update.proofs.UpdateLemmas.{installs, is_offered}
use Rattle.ext_update.proofs.updating.plan_update.Goals as goal

pub bounds-as_slice-place : goal.bounds-as_slice-place
bounds-as_slice-place g c =
    let updates = c.args.updates.now in
    let version = installs updates.available updates.installed.versions (option_copied c.args.wanted) c.in-Install.place c.in-Install.ensures in
    subst (λ (vs : List (List ℕ)). c.in-Install.place < length vs) (sym c.as_slice.ensures.same) (slice_get_within updates.available c.in-Install.place version.0 version.1)

pub update_to-requires-clause-offered : goal.update_to-requires-clause-offered
update_to-requires-clause-offered g c =
    let updates = c.args.updates.now in
    let place = c.in-Install.place in
    let version = installs updates.available updates.installed.versions (option_copied c.args.wanted) place c.in-Install.ensures in
    let within = subst (λ (vs : List (List ℕ)). place < length vs) (sym c.as_slice.ensures.same) (slice_get_within updates.available place version.0 version.1) in
    is_offered c.args.host.now updates place c.index-as_slice-place.result c.requires.updates
    (ap (λ (vs : List (List ℕ)). slice_get vs place) (sym c.as_slice.ensures.same)
    ∙ slice_get_read c.as_slice.result.now (length c.as_slice.result.now) place c.index-as_slice-place.result refl within c.index-as_slice-place.is)

pub returns-in-Install-clause-wants : goal.returns-in-Install-clause-wants
returns-in-Install-clause-wants g c =
    let updates = c.args.updates.now in
    let place = c.in-Install.place in
    let version = installs updates.available updates.installed.versions (option_copied c.args.wanted) place c.in-Install.ensures in
    let within = subst (λ (vs : List (List ℕ)). place < length vs) (sym c.as_slice.ensures.same) (slice_get_within updates.available place version.0 version.1) in
    let there = ap (λ (vs : List (List ℕ)). slice_get vs place) (sym c.as_slice.ensures.same)
    ∙ slice_get_read c.as_slice.result.now (length c.as_slice.result.now) place c.index-as_slice-place.result refl within c.index-as_slice-place.is in
    let files = (g.P.Depot.state c.args.depot.now).contents in
    if_ok (VersionWants files c.args.host.now updates c.index-as_slice-place.result) (UpdateWants files c.args.host.now updates (option_copied c.args.wanted)) c.update_to.result
    (λ update wants. (Install place, c.in-Install.ensures, (c.index-as_slice-place.result, there, wants))) c.update_to.ensures.wants
