use Rattle.std.proofs.Common.{Ok, subst}
use Rattle.std.proofs.lemmas.Result.{err_from_is_err_and}
use Rattle.ext_text.specs.Extension.{class_of}
use Rattle.ext_host.specs.Planning.{content_size}
use Rattle.ext_find.specs.Found.{AreFound}
use Rattle.ext_find.specs.HostRelease.{ReadsHost}
use Rattle.ext_view.specs.Hierarchies.{hierarchies_at}
use Rattle.ext_view.proofs.FoundLemmas.{all_sound}
use Rattle.ext_view.proofs.SurveyLemmas.{host_fails, host_reads, surveys_listed}
use Rattle.ext_view.proofs.surveying.survey_of.Goals as goal

pub returns-in_err-release-clause-gives : goal.returns-in_err-release-clause-gives
returns-in_err-release-clause-gives g c =
    let p = err_from_is_err_and c.from_residual.result c.from_residual.ensures.1 in
    rw (p.1, p.2)
    (host_fails (g.H.Shelf.told c.args.shelf.now) (g.H.Shelf.faults c.args.shelf.now) (g.H.Shelf.faults c.host_release.new.shelf) c.args.host.now c.args.base.now c.args.class c.args.force c.in_err-release.field-0.0 c.in_err-release.ensures.gives)

pub items_of-requires-clause-sound : goal.items_of-requires-clause-sound
items_of-requires-clause-sound g c =
    all_sound content_size c.args.base.now c.args.class c.args.host.now.arch (hierarchies_at c.args.class c.args.host.now) c.in_ok-found.found
    (subst (λ names. AreFound content_size c.args.base.now (class_of c.args.class) c.args.host.now.arch names c.in_ok-found.found) c.hierarchies_of.ensures
    (subst (λ class. AreFound content_size c.args.base.now class c.args.host.now.arch c.hierarchies_of.result.now c.in_ok-found.found) c.class.ensures c.in_ok-found.ensures))

pub returns-clause-gives : goal.returns-clause-gives
returns-clause-gives g c =
    let told = g.H.Shelf.told c.args.shelf.now in
    let old = g.H.Shelf.faults c.args.shelf.now in
    let mid = g.H.Shelf.faults c.host_release.new.shelf in
    let base = c.args.base.now in
    surveys_listed told (g.H.Shelf.told c.host_release.new.shelf) (λ held. g.met.H.Shelf.stays_laws.tells c.args.shelf.now c.host_release.new.shelf held c.host_release.ensures.stays) old mid (g.H.Shelf.faults c.items_of.new.shelf) c.host_release.ensures.count
    c.args.host.now base c.args.class c.args.force c.in-Some.release c.in_ok-found.found
    (subst (λ names. AreFound content_size base (class_of c.args.class) c.args.host.now.arch names c.in_ok-found.found) c.hierarchies_of.ensures
    (subst (λ class. AreFound content_size c.args.base.now class c.args.host.now.arch c.hierarchies_of.result.now c.in_ok-found.found) c.class.ensures c.in_ok-found.ensures))
    (host_reads told old mid base c.in-Some.release (subst (λ o. ReadsHost base told old mid (Ok o)) c.in-Some.is c.in_ok-release.ensures.gives))
    c.items_of.result c.items_of.ensures.gives
