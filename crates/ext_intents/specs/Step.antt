-- What each command wants of a store, by what it sees of it and the files that the depot has, where these are told: one line a
-- command.
use Rattle.std.specs.Prelude.{◌≡◌, Bool, true, false, Option, Some, None}
use Rattle.ext_text.specs.declared.extension.Extension.TheVariants as extensions
use Rattle.ext_depot.specs.Depot.{Files}
use Rattle.ext_host.specs.Drawn.{IsFileOf, trees_of}
use Rattle.ext_host.specs.Held.{HeldFile}
use Rattle.ext_host.specs.Shelf.{Told}
use Rattle.ext_host.specs.declared.host.Host.{Host}
use Rattle.ext_cmd.specs.declared.command.Command.{Command}
use Rattle.ext_cmd.specs.declared.command.Command.TheVariants.{Init, ImportFs, Remove, Sysext, Confext, Tree, Cat, Compare, Check, Layer, Migrate, Batch, Sample, Sysupdate, Components}
use Rattle.ext_cmd.specs.declared.command.Command.TheVariants.{Mark, History, HistoryChanges, Rollback, Forget, Portable}
use Rattle.ext_cmd.specs.declared.refusal.Refusal.TheVariants.{NoStore, StoreExists}
use Rattle.ext_intents.specs.Cat.{cat_intent}
use Rattle.ext_intents.specs.Compare.{compare_intent}
use Rattle.ext_intents.specs.Import.{ImportWants}
use Rattle.ext_intents.specs.Init.{InitWants}
use Rattle.ext_intents.specs.Intents.{Seen}
use Rattle.ext_intents.specs.Marks.{HistoryChangesWants, MarkWants, forget_intent, history_intent, rollback_intent}
use Rattle.ext_intents.specs.Migrate.{migrate_intent}
use Rattle.ext_intents.specs.Portable.{PortWants}
use Rattle.ext_intents.specs.Remove.{remove_intent}
use Rattle.ext_intents.specs.Sysupdate.{ComponentsWants, VerbWants}
use Rattle.ext_intents.specs.Tree.{meant_path, tree_intent}
use Rattle.ext_intents.specs.Views.{ViewWants}
use Rattle.ext_intents.specs.declared.intent.Intent.{Intent}
use Rattle.ext_intents.specs.declared.intent.Intent.TheVariants.{Checks, Refuses}

-- where there is a store
abbrev pub WantsOf : Seen → Option Files → Command → Intent → Type 0
WantsOf seen files (Init arch scope hierarchies) intent = intent ≡ Refuses StoreExists
WantsOf seen files (ImportFs resource path) intent = ImportWants seen.host files resource path intent
WantsOf seen files (Remove path) intent = intent ≡ remove_intent seen.host path
WantsOf seen files (Sysext view) intent = ViewWants seen.host seen.told extensions.Sysext view intent
WantsOf seen files (Confext view) intent = ViewWants seen.host seen.told extensions.Confext view intent
WantsOf seen files (Tree path) intent = intent ≡ tree_intent seen.host (meant_path path)
WantsOf seen files (Cat path) intent = intent ≡ cat_intent seen.host path
WantsOf seen files (Compare a b) intent = intent ≡ compare_intent a b
WantsOf seen files Check intent = intent ≡ Checks
WantsOf seen files Layer intent = ⊥
WantsOf seen files Migrate intent = intent ≡ migrate_intent seen.host seen.newest
WantsOf seen files Batch intent = ⊥
WantsOf seen files (Sample images) intent = ⊥
WantsOf seen files (Sysupdate component verb) intent = VerbWants seen.host seen.told files component verb intent
WantsOf seen files Components intent = ComponentsWants seen.host intent
WantsOf seen files (Mark keep) intent = MarkWants seen.number seen.host keep intent
WantsOf seen files History intent = intent ≡ history_intent seen.host
WantsOf seen files (HistoryChanges mark) intent = HistoryChangesWants seen.host mark intent
WantsOf seen files (Rollback mark) intent = intent ≡ rollback_intent seen.host mark
WantsOf seen files (Forget mark) intent = intent ≡ forget_intent seen.host mark
WantsOf seen files (Portable command) intent = PortWants seen.host seen.told command intent

-- of each file of the host both tell one thing
abbrev pub TellAlike : Host → (HeldFile → Told) → (HeldFile → Told) → Type 0
TellAlike host told other = (held : HeldFile) → IsFileOf (trees_of host) held → told held ≡ other held

-- where there is none
abbrev pub WantsFirst : Command → Intent → Type 0
WantsFirst (Init arch scope hierarchies) intent = InitWants arch scope hierarchies intent
WantsFirst (Compare a b) intent = intent ≡ compare_intent a b
WantsFirst Layer intent = ⊥
WantsFirst Batch intent = ⊥
WantsFirst (Sample images) intent = ⊥
WantsFirst _ intent = intent ≡ Refuses NoStore

-- what a command wants
abbrev pub Wants : Option Seen → Option Files → Command → Intent → Type 0
Wants None files command intent = WantsFirst command intent
Wants (Some seen) files command intent = WantsOf seen files command intent

-- one command over a store: `compare`, `layer` and `sample` look at none, and `batch` is the commands of its lines
abbrev pub is_of_store : Command → Bool
is_of_store (Compare a b) = false
is_of_store Layer = false
is_of_store Batch = false
is_of_store (Sample images) = false
is_of_store _ = true
