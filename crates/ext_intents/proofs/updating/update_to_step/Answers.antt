use Rattle.std.proofs.Common.{inl, subst}
use Rattle.std.specs.Option.{option_copied}
use Rattle.ext_cmd.specs.declared.command.UpdateVerb.TheVariants as verbs
use Rattle.ext_intents.specs.Sysupdate.{VerbWantsOf}
use Rattle.ext_intents.specs.Updates.{LooksAs}
use Rattle.ext_intents.specs.Updating.{ByUpdate}
use Rattle.ext_intents.proofs.UpdateStepLemmas.{if_ok_more}
use Rattle.ext_intents.proofs.UpdatingLemmas.{updates_for}
use Rattle.ext_intents.proofs.updating.update_to_step.Goals as goal

pub updated-requires-clause-updates : goal.updated-requires-clause-updates
updated-requires-clause-updates g c =
    updates_for (g.H.Shelf.told c.args.shelf.now) (g.P.Depot.state c.args.depot.now).contents c.args.host.now c.args.base.now (option_copied c.args.component) c.in-Ok-Found.updates
    c.requires.base
    (subst (LooksAs (g.H.Shelf.told c.args.shelf.now) (g.P.Depot.state c.args.depot.now).contents c.args.host.now c.args.base.now (option_copied c.args.component)) c.in-Ok-Found.field-0-is
    c.in-Ok-Found.ensures.looks)

pub returns-in-Ok-Found-clause-wants : goal.returns-in-Ok-Found-clause-wants
returns-in-Ok-Found-clause-wants g c =
    let host = c.args.host.now in
    let told = g.H.Shelf.told c.args.shelf.now in
    let files = (g.P.Depot.state c.args.depot.now).contents in
    let wanted = option_copied c.args.wanted in
    let updates = c.in-Ok-Found.updates in
    let looks = subst (LooksAs told files host c.args.base.now (option_copied c.args.component)) c.in-Ok-Found.field-0-is c.in-Ok-Found.ensures.looks in
    if_ok_more _ (VerbWantsOf told files host c.args.base.now (option_copied c.args.component) (verbs.Update wanted)) c.updated.result
    (λ intent by. inl (updates, looks, subst (λ contents. ByUpdate contents host wanted updates intent) c.updates_of.ensures.kept.contents by))
    c.updated.ensures.wants
