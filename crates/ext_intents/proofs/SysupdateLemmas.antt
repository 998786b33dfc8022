-- What the commands `sysupdate` want is fit for the host; that of each verb but `update` and `vacuum` is an answer or a refusal.
use Rattle.std.proofs.Common.{◌≡◌, ℕ, List, Option, Some, inl, inr, sym, subst}
use Rattle.ext_depot.specs.Depot.{Files}
use Rattle.ext_tree.specs.Tree.{Entries}
use Rattle.ext_host.specs.Held.{HeldFile}
use Rattle.ext_host.specs.Shelf.{Told}
use Rattle.ext_host.specs.declared.host.Host.{Host}
use Rattle.ext_cmd.specs.declared.command.UpdateVerb.{UpdateVerb}
use Rattle.ext_cmd.specs.declared.command.UpdateVerb.TheVariants as verbs
use Rattle.ext_intents.specs.Intents.{IsFit, IsAnswerOrRefusal}
use Rattle.ext_intents.specs.Sysupdate.{ChecksNew, ComponentsWants, Lists, VerbWants, VerbWantsOf, WantsByUpdates}
use Rattle.ext_intents.specs.Updating.{ByUpdate}
use Rattle.ext_intents.specs.declared.intent.Intent.{Intent}
use Rattle.ext_intents.specs.declared.intent.Intent.TheVariants.{Changes, Answers, Checks, Shows, Refuses}
use Rattle.ext_update.specs.declared.updates.Updates.{Updates}
use Rattle.ext_intents.proofs.UpdatingLemmas.{by_update_fits, by_vacuum_fits}

reply : (intent other : Intent) → intent ≡ other → IsAnswerOrRefusal other → IsAnswerOrRefusal intent
reply intent other is replies = subst IsAnswerOrRefusal (sym is) replies

lists_reply : (updates : Updates) (intent : Intent) → Lists updates intent → IsAnswerOrRefusal intent
lists_reply updates intent (items, are, is) = reply intent _ is tt

checks_reply : (updates : Updates) (intent : Intent) → ChecksNew updates intent → IsAnswerOrRefusal intent
checks_reply updates intent (inl (place, version, chosen, there, is)) = reply intent _ is tt
checks_reply updates intent (inr (none, is)) = reply intent _ is tt

-- the verbs that want no other host
abbrev pub IsReplying : UpdateVerb → Type 0
IsReplying verbs.List = Unit {0}
IsReplying verbs.CheckNew = Unit {0}
IsReplying (verbs.Update wanted) = ⊥
IsReplying verbs.Vacuum = ⊥
IsReplying verbs.Features = Unit {0}

-- a reply is fit for whatever is seen
pub reply_fits : (coming : ℕ) (seen : Option Host) (intent : Intent) → IsAnswerOrRefusal intent → IsFit coming seen intent
reply_fits coming seen (Changes next answer) replies = absurd replies
reply_fits coming seen (Answers answer) replies = tt
reply_fits coming seen Checks replies = absurd replies
reply_fits coming seen (Shows held) replies = absurd replies
reply_fits coming seen (Refuses refusal) replies = tt

module _ (told : HeldFile → Told) (files : Option Files) (host : Host) (base : Entries HeldFile) (component : Option (List ℕ)) where
  wanted_reply : (By : Updates → Intent → Type 0) (intent : Intent) → ((updates : Updates) (other : Intent) → By updates other → IsAnswerOrRefusal other)
      → WantsByUpdates told files host base component By intent → IsAnswerOrRefusal intent
  wanted_reply By intent replies (inl (updates, are, by)) = replies updates intent by
  wanted_reply By intent replies (inr (refusal, none, is)) = reply intent _ is tt

  verb_reply : (verb : UpdateVerb) (intent : Intent) → IsReplying verb → VerbWantsOf told files host base component verb intent → IsAnswerOrRefusal intent
  verb_reply verbs.List intent replying wants = wanted_reply Lists intent lists_reply wants
  verb_reply verbs.CheckNew intent replying wants = wanted_reply ChecksNew intent checks_reply wants
  verb_reply (verbs.Update wanted) intent replying wants = absurd replying
  verb_reply verbs.Vacuum intent replying wants = absurd replying
  verb_reply verbs.Features intent replying (inl (features, give, is)) = reply intent _ is tt
  verb_reply verbs.Features intent replying (inr (error, refusal, give, refused, is)) = reply intent _ is tt

  planned_fits : (coming : ℕ) (By : Updates → Intent → Type 0) (intent : Intent) → ((updates : Updates) (other : Intent) → By updates other → IsFit coming (Some host) other)
      → WantsByUpdates told files host base component By intent → IsFit coming (Some host) intent
  planned_fits coming By intent fits (inl (updates, are, by)) = fits updates intent by
  planned_fits coming By intent fits (inr (refusal, none, is)) = subst (IsFit coming (Some host)) (sym is) tt

  verb_fits : (coming : ℕ) (verb : UpdateVerb) (intent : Intent) → VerbWantsOf told files host base component verb intent → IsFit coming (Some host) intent
  verb_fits coming verbs.List intent wants = reply_fits coming (Some host) intent (verb_reply verbs.List intent tt wants)
  verb_fits coming verbs.CheckNew intent wants = reply_fits coming (Some host) intent (verb_reply verbs.CheckNew intent tt wants)
  verb_fits coming (verbs.Update wanted) intent wants = planned_fits coming (ByUpdate files host wanted) intent (by_update_fits coming files host wanted) wants
  verb_fits coming verbs.Vacuum intent (inl (transfers, installed, on, are, by)) = by_vacuum_fits coming host transfers installed.items intent by
  verb_fits coming verbs.Vacuum intent (inr (refusal, none, is)) = subst (IsFit coming (Some host)) (sym is) tt
  verb_fits coming verbs.Features intent wants = reply_fits coming (Some host) intent (verb_reply verbs.Features intent tt wants)

pub update_replies : (host : Host) (told : HeldFile → Told) (files : Option Files) (component : Option (List ℕ)) (verb : UpdateVerb) (intent : Intent) → IsReplying verb → VerbWants host told files component verb intent → IsAnswerOrRefusal intent
update_replies host told files component verb intent replying (base, is, wants) = verb_reply told files host base component verb intent replying wants

pub update_fits : (coming : ℕ) (host : Host) (told : HeldFile → Told) (files : Option Files) (component : Option (List ℕ)) (verb : UpdateVerb) (intent : Intent) → VerbWants host told files component verb intent → IsFit coming (Some host) intent
update_fits coming host told files component verb intent (base, is, wants) = verb_fits told files host base component coming verb intent wants

pub components_reply : (host : Host) (intent : Intent) → ComponentsWants host intent → IsAnswerOrRefusal intent
components_reply host intent (base, is, (names, are, same)) = reply intent _ same tt
