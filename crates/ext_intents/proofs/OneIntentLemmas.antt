-- A command wants one thing.
use Rattle.std.proofs.Common.{◌≡◌, Some, None, sym, ◌∙◌}
use Rattle.ext_text.specs.declared.extension.Extension.TheVariants as extensions
use Rattle.ext_depot.specs.Depot.{Files}
use Rattle.ext_cmd.specs.declared.command.Command.{Command}
use Rattle.ext_cmd.specs.declared.command.Command.TheVariants.{Init, ImportFs, Remove, Sysext, Confext, Tree, Cat, Compare, Check, Layer, Migrate, Batch, Sample, Sysupdate, Components}
use Rattle.ext_cmd.specs.declared.command.Command.TheVariants.{Mark, History, HistoryChanges, Rollback, Forget, Portable}
use Rattle.ext_intents.specs.Intents.{Seen}
use Rattle.ext_intents.specs.Laws.{IsToldSeen, OneIntent}
use Rattle.ext_intents.specs.Step.{WantsFirst, WantsOf}
use Rattle.ext_intents.specs.declared.intent.Intent.{Intent}
use Rattle.ext_intents.proofs.MarksLemmas.{history_changes_once}
use Rattle.ext_intents.proofs.OneImportLemmas.{TextLaws, import_once}
use Rattle.ext_intents.proofs.OneInitLemmas.{init_once}
use Rattle.ext_intents.proofs.OnePortableLemmas.{PortLaws, port_once}
use Rattle.ext_intents.proofs.OneUpdateLemmas.{UpdateLaws, components_once, update_once}
use Rattle.ext_intents.proofs.OneViewLemmas.{SurveyLaws, view_once}

first_once : (command : Command) (a b : Intent) → WantsFirst command a → WantsFirst command b → a ≡ b
first_once (Init arch scope hierarchies) a b x y = init_once arch scope hierarchies a b x y
first_once (ImportFs resource path) a b x y = x ∙ sym y
first_once (Remove path) a b x y = x ∙ sym y
first_once (Sysext view) a b x y = x ∙ sym y
first_once (Confext view) a b x y = x ∙ sym y
first_once (Tree path) a b x y = x ∙ sym y
first_once (Cat path) a b x y = x ∙ sym y
first_once (Compare v w) a b x y = x ∙ sym y
first_once Check a b x y = x ∙ sym y
first_once Layer a b x y = absurd x
first_once Batch a b x y = absurd x
first_once (Sample images) a b x y = absurd x
first_once (Sysupdate component verb) a b x y = x ∙ sym y
first_once Components a b x y = x ∙ sym y
first_once Migrate a b x y = x ∙ sym y
first_once (Mark keep) a b x y = x ∙ sym y
first_once History a b x y = x ∙ sym y
first_once (HistoryChanges mark) a b x y = x ∙ sym y
first_once (Rollback mark) a b x y = x ∙ sym y
first_once (Forget mark) a b x y = x ∙ sym y
first_once (Portable command) a b x y = x ∙ sym y

seen_once : TextLaws → SurveyLaws → UpdateLaws → PortLaws → (seen : Seen) (files : Files) (command : Command) (a b : Intent) → IsToldSeen seen → WantsOf seen (Some files) command a → WantsOf seen (Some files) command b → a ≡ b
seen_once texts surveys updates ports seen files (Init arch scope hierarchies) a b is x y = x ∙ sym y
seen_once texts surveys updates ports seen files (ImportFs resource path) a b is x y = import_once texts seen.host is.root files resource path a b x y
seen_once texts surveys updates ports seen files (Remove path) a b is x y = x ∙ sym y
seen_once texts surveys updates ports seen files (Sysext view) a b is x y = view_once surveys seen.host seen.told is.tells extensions.Sysext view a b x y
seen_once texts surveys updates ports seen files (Confext view) a b is x y = view_once surveys seen.host seen.told is.tells extensions.Confext view a b x y
seen_once texts surveys updates ports seen files (Tree path) a b is x y = x ∙ sym y
seen_once texts surveys updates ports seen files (Cat path) a b is x y = x ∙ sym y
seen_once texts surveys updates ports seen files (Compare v w) a b is x y = x ∙ sym y
seen_once texts surveys updates ports seen files Check a b is x y = x ∙ sym y
seen_once texts surveys updates ports seen files Layer a b is x y = absurd x
seen_once texts surveys updates ports seen files Batch a b is x y = absurd x
seen_once texts surveys updates ports seen files (Sample images) a b is x y = absurd x
seen_once texts surveys updates ports seen files (Sysupdate component verb) a b is x y = update_once updates seen.host seen.told is.tells files component verb a b x y
seen_once texts surveys updates ports seen files Components a b is x y = components_once updates seen.host a b x y
seen_once texts surveys updates ports seen files Migrate a b is x y = x ∙ sym y
seen_once texts surveys updates ports seen files (Mark keep) a b is x y = x.1 ∙ sym y.1
seen_once texts surveys updates ports seen files History a b is x y = x ∙ sym y
seen_once texts surveys updates ports seen files (HistoryChanges mark) a b is x y = history_changes_once seen.host mark a b x y
seen_once texts surveys updates ports seen files (Rollback mark) a b is x y = x ∙ sym y
seen_once texts surveys updates ports seen files (Forget mark) a b is x y = x ∙ sym y
seen_once texts surveys updates ports seen files (Portable command) a b is x y = port_once ports seen.host seen.told is.tells command a b x y

pub one_intent : TextLaws → SurveyLaws → UpdateLaws → PortLaws → OneIntent
one_intent texts surveys updates ports None files command a b is x y = first_once command a b x y
one_intent texts surveys updates ports (Some seen) files command a b is x y = seen_once texts surveys updates ports seen files command a b is x y
