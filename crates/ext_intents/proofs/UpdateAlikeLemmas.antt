-- What the commands `sysupdate` want rests on what is told of the host's files, and on nothing else that is told.
use Rattle.std.proofs.Common.{ℕ, List, Option, Ok, Err, inl, inr}
use Rattle.ext_depot.specs.Depot.{Files}
use Rattle.ext_tree.specs.Tree.{Entries}
use Rattle.ext_host.specs.Held.{HeldFile}
use Rattle.ext_host.specs.Planning.{IsBaseTree}
use Rattle.ext_host.specs.Shelf.{Told}
use Rattle.ext_host.specs.declared.host.Host.{Host}
use Rattle.ext_cmd.specs.declared.command.UpdateVerb.{UpdateVerb}
use Rattle.ext_cmd.specs.declared.command.UpdateVerb.TheVariants as verbs
use Rattle.ext_cmd.specs.declared.refusal.Refusal.{Refusal}
use Rattle.ext_intents.specs.Step.{TellAlike}
use Rattle.ext_intents.specs.Sysupdate.{ChecksNew, Lists, VerbWants, VerbWantsOf, WantsByUpdates}
use Rattle.ext_intents.specs.Updates.{AreNoUpdates, AreUpdates}
use Rattle.ext_intents.specs.Updating.{ByUpdate}
use Rattle.ext_intents.specs.declared.intent.Intent.{Intent}
use Rattle.ext_update.specs.declared.updates.Updates.{Updates}
use Rattle.ext_intents.proofs.UpdateFilesLemmas.{active_alike, features_alike}

module _ (host : Host) (told other : HeldFile → Told) (alike : TellAlike host told other) where
  module _ (base : Entries HeldFile) (is : IsBaseTree host base) (files : Option Files) (component : Option (List ℕ)) where
    updates_alike : (updates : Updates) → AreUpdates told files host base component updates → AreUpdates other files host base component updates
    updates_alike updates are = record {
      active = active_alike host base is component told other alike host.arch (Ok updates.transfers) are.active;
      offered = are.offered;
      available = are.available;
      installed = are.installed;
    }

    none_alike : (refusal : Refusal) → AreNoUpdates told files host base component refusal → AreNoUpdates other files host base component refusal
    none_alike refusal (inl (error, gives, refused)) = inl (error, active_alike host base is component told other alike host.arch (Err error) gives, refused)
    none_alike refusal (inr (transfers, error, on, offered, refused)) =
        inr (transfers, error, active_alike host base is component told other alike host.arch (Ok transfers) on, offered, refused)

    by_alike : (By : Updates → Intent → Type 0) (intent : Intent) → WantsByUpdates told files host base component By intent → WantsByUpdates other files host base component By intent
    by_alike By intent (inl (updates, are, by)) = inl (updates, updates_alike updates are, by)
    by_alike By intent (inr (refusal, none, wants)) = inr (refusal, none_alike refusal none, wants)

    verb_alike : (verb : UpdateVerb) (intent : Intent) → VerbWantsOf told files host base component verb intent → VerbWantsOf other files host base component verb intent
    verb_alike verbs.List intent wants = by_alike Lists intent wants
    verb_alike verbs.CheckNew intent wants = by_alike ChecksNew intent wants
    verb_alike (verbs.Update wanted) intent wants = by_alike (ByUpdate files host wanted) intent wants
    verb_alike verbs.Vacuum intent (inl (transfers, installed, on, are, by)) =
        inl (transfers, installed, active_alike host base is component told other alike host.arch (Ok transfers) on, are, by)
    verb_alike verbs.Vacuum intent (inr (refusal, (error, gives, refused), wants)) =
        inr (refusal, (error, active_alike host base is component told other alike host.arch (Err error) gives, refused), wants)
    verb_alike verbs.Features intent (inl (features, give, wants)) = inl (features, features_alike host base is component told other alike (Ok features) give, wants)
    verb_alike verbs.Features intent (inr (error, refusal, give, refused, wants)) =
        inr (error, refusal, features_alike host base is component told other alike (Err error) give, refused, wants)

  pub update_alike : (files : Option Files) (component : Option (List ℕ)) (verb : UpdateVerb) (intent : Intent) → VerbWants host told files component verb intent → VerbWants host other files component verb intent
  update_alike files component verb intent (base, is, wants) = (base, is, verb_alike base is files component verb intent wants)
