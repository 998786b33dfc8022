use Rattle.std.proofs.Common.{ap, ◌∙◌, subst, List, ℕ}
use Rattle.ext_update.specs.Stages.{Writes, WritesWant}
use Rattle.ext_update.specs.Update.{update_of}
use Rattle.ext_update.proofs.UpdateLemmas.{draft_sound, of_transfers, writes_are}
use Rattle.ext_update.proofs.updating.update_divided.Goals as goal

pub draft_of-requires : goal.draft_of-requires
draft_of-requires c =
    let updates = c.args.updates.now in
    of_transfers updates.transfers updates.offers c.args.version.now c.args.resources.items c.requires.resources.each

pub plan-requires-clause-sound : goal.plan-requires-clause-sound
plan-requires-clause-sound c =
    draft_sound c.args.host.now c.args.updates.now c.args.version.now c.args.resources.items c.in_ok-draft.draft c.requires.updates c.requires.resources c.in_ok-draft.ensures

pub returns-clause-wants : goal.returns-clause-wants
returns-clause-wants c =
    let planned = c.in_ok-planned.planned in
    let writes = writes_are c.args.updates.now c.args.version.now c.args.resources.items c.args.division c.in_ok-draft.draft c.in_ok-items.items c.in_ok-draft.ensures c.in_ok-items.ensures in (
      planned,
      subst (λ (w : Writes). WritesWant c.args.host.now w planned) writes c.in_ok-planned.ensures.wants,
      c.update_of.ensures ∙ ap (λ (v : List ℕ). update_of v planned) c.in_ok-coming.ensures,
    )
