-- The verbs `update` and `vacuum` of `sysupdate`, after systemd-sysupdate(8): what they want of a host by the plan of an update or of
-- making room. The coming host is valid, and each file that it keeps is one of the host's. A plan's refusal is told by the command's
-- refusal of the same reason.
use Rattle.std.specs.Prelude.{◌≡◌, ℕ, List, [], Option, Some, None}
use Rattle.ext_depot.specs.Depot.{Files}
use Rattle.ext_host.specs.Planning.{IsPlannedHost}
use Rattle.ext_host.specs.declared.host.Host.{Host}
use Rattle.ext_transfer.specs.declared.transfer.Transfer.{Transfer}
use Rattle.ext_installed.specs.declared.instance.Instance.{Instance}
use Rattle.ext_update.specs.Steps.{IfUpdated, IfVacuumed}
use Rattle.ext_update.specs.Update.{UpdateWants}
use Rattle.ext_update.specs.Vacuum.{VacuumWants}
use Rattle.ext_update.specs.declared.planned.Update.{Update}
use Rattle.ext_update.specs.declared.planned.Update.TheVariants as updated
use Rattle.ext_update.specs.declared.planned.Vacuum.{Vacuum}
use Rattle.ext_update.specs.declared.planned.Vacuum.TheVariants as vacuumed
use Rattle.ext_update.specs.declared.refusal.UpdateRefusal.{UpdateRefusal}
use Rattle.ext_update.specs.declared.refusal.UpdateRefusal.TheVariants as reasons
use Rattle.ext_update.specs.declared.updates.Updates.{Updates}
use Rattle.ext_cmd.specs.declared.answer.Answer.TheVariants as answers
use Rattle.ext_cmd.specs.declared.refusal.Refusal.{Refusal}
use Rattle.ext_cmd.specs.declared.refusal.Refusal.TheVariants as refusals
use Rattle.ext_intents.specs.declared.intent.Intent.{Intent}
use Rattle.ext_intents.specs.declared.intent.Intent.TheVariants.{Answers, Changes, Refuses}

-- the text of the version that is asked for; where none is, no refusal tells it
abbrev pub wanted_text : Option (List ℕ) → List ℕ
wanted_text None = []
wanted_text (Some version) = version

-- how a plan's refusal is told, where this version is asked for
abbrev pub refusal_for : Option (List ℕ) → UpdateRefusal → Refusal
refusal_for wanted reasons.NoSuchVersion = refusals.NoSuchVersion (wanted_text wanted)
refusal_for wanted (reasons.NotInDepot path) = refusals.NotInDepot path
refusal_for wanted (reasons.Limit which) = refusals.Limit which
refusal_for wanted (reasons.Mismatch path listed found) = refusals.Mismatch path listed found
refusal_for wanted (reasons.BadTree path line) = refusals.BadTree line (Some path)
refusal_for wanted (reasons.NoRoom file protected) = refusals.NoRoom protected file
refusal_for wanted (reasons.ReadOnly path) = refusals.ReadOnly path
refusal_for wanted (reasons.Clash path) = refusals.Clash path
refusal_for wanted (reasons.NotDirectory path) = refusals.NotDirectory path

-- what `update` wants by its plan
abbrev pub update_intent : Option (List ℕ) → Update → Intent
update_intent wanted updated.Unchanged = Answers answers.Unchanged
update_intent wanted (updated.Changes version next) = Changes next (answers.Updated version)
update_intent wanted (updated.Refused reason) = Refuses (refusal_for wanted reason)

-- what `vacuum` wants by its plan
abbrev pub vacuum_intent : Vacuum → Intent
vacuum_intent vacuumed.Unchanged = Answers (answers.Removed [])
vacuum_intent (vacuumed.Changes removed next) = Changes next (answers.Removed removed)
vacuum_intent (vacuumed.Refused reason) = Refuses (refusal_for None reason)

-- an update to the version that is asked for, or else to the newest
abbrev pub ByUpdate : Option Files → Host → Option (List ℕ) → Updates → Intent → Type 0
ByUpdate files host wanted updates intent =
    (update : Update) × UpdateWants files host updates wanted update × IfUpdated (IsPlannedHost host) update
    × (intent ≡ update_intent wanted update)

-- room in the targets
abbrev pub ByVacuum : Host → List Transfer → List Instance → Intent → Type 0
ByVacuum host transfers items intent =
    (vacuum : Vacuum) × VacuumWants host transfers items vacuum × IfVacuumed (IsPlannedHost host) vacuum × (intent ≡ vacuum_intent vacuum)
