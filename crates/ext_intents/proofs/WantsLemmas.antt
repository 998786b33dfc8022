-- What a command wants is fit for what is seen.
use Rattle.std.proofs.Common.{◌≡◌, ℕ, ◌+◌, ◌≤◌, Bool, true, false, if◌then◌else◌, List, [], ◌∷◌, length, inl, inr, Option, Some, None, is_some, not, zero, refl, sym, subst, arith}
use Rattle.std.specs.Prelude.{nat_lt}
use Rattle.std.proofs.lemmas.Bool.Decides.{nat_tests}
use Rattle.ext_text.specs.declared.extension.Extension.TheVariants as extensions
use Rattle.ext_text.specs.declared.which.Which.TheVariants as limits
use Rattle.ext_depot.specs.Depot.{Files}
use Rattle.ext_depot.specs.declared.depot_text.DepotText.{DepotText}
use Rattle.ext_depot.specs.declared.depot_text.DepotText.TheVariants.{Absent, TooLong, Whole}
use Rattle.ext_tree.specs.Cut.{cut}
use Rattle.ext_tree.specs.Tree.{Entries, is_directory, lookup, most_entries}
use Rattle.ext_tree.specs.TreeText.{IsTreeText}
use Rattle.ext_tree.specs.declared.entry.Entry.{Entry}
use Rattle.ext_tree.specs.declared.entry.Entry.TheVariants.{Dir, Opaque, File, Link, Hide}
use Rattle.ext_tree.specs.declared.stamp.Stamp.{Stamp}
use Rattle.ext_host.specs.Held.{HeldFile}
use Rattle.ext_host.specs.Valid.{IsValidHost, all_bytes, most_bytes}
use Rattle.ext_host.specs.declared.host.Host.{Host}
use Rattle.ext_host.specs.ReadOnly.{is_read_only}
use Rattle.ext_cmd.specs.Words.{IsWellFormed}
use Rattle.ext_cmd.specs.declared.command.Command.{Command}
use Rattle.ext_cmd.specs.declared.command.Command.TheVariants.{Init, ImportFs, Remove, Sysext, Confext, Tree, Cat, Compare, Check, Layer, Migrate, Batch, Sample, Sysupdate, Components}
use Rattle.ext_cmd.specs.declared.command.Command.TheVariants.{Mark, History, HistoryChanges, Rollback, Forget, Portable}
use Rattle.ext_cmd.specs.declared.answer.Answer.TheVariants as answers
use Rattle.ext_cmd.specs.declared.answer.Answer.TheVariants.{Done, Unchanged}
use Rattle.ext_cmd.specs.declared.refusal.Refusal.TheVariants.{NoEntry, NotDirectory, ReadOnly}
use Rattle.ext_intents.specs.Cat.{cat_at}
use Rattle.ext_intents.specs.Change.{changed_at}
use Rattle.ext_intents.specs.Import.{FittingImportWants, OpenImportWants, TextWants, TreeWants, sized, within}
use Rattle.ext_intents.specs.Intents.{IsFit, IsPlanned, Seen}
use Rattle.ext_intents.specs.Migrate.{migrate_intent}
use Rattle.ext_intents.specs.Remove.{remove_intent}
use Rattle.ext_intents.specs.Step.{WantsFirst, WantsOf}
use Rattle.ext_intents.specs.Tree.{meant_path, text_below, tree_at, tree_intent}
use Rattle.ext_intents.specs.declared.intent.Intent.{Intent}
use Rattle.ext_intents.specs.declared.intent.Intent.TheVariants.{Changes, Answers, Refuses}
use Rattle.ext_intents.proofs.FitLemmas.{cut_is_planned, graft_is_planned, same_is_planned}
use Rattle.ext_intents.proofs.InitLemmas.{new_is_planned}
use Rattle.ext_intents.proofs.MarksLemmas.{forget_fits, history_changes_reply, mark_fits, rollback_fits}
use Rattle.ext_intents.proofs.PortableLemmas.{port_fits}
use Rattle.ext_intents.proofs.SysupdateLemmas.{components_reply, reply_fits, update_fits}
use Rattle.ext_intents.proofs.ViewsLemmas.{view_fits}

-- it is fit where it is one that is
fit_of : (coming : ℕ) (seen : Option Host) (a b : Intent) → b ≡ a → IsFit coming seen a → IsFit coming seen b
fit_of coming seen a b is fit = subst (IsFit coming seen) (sym is) fit

not_more : (a b : ℕ) → nat_lt a b ≡ false → b ≤ a
not_more a b is = grind (arith, nat_tests, is)

sized_fits : (coming : ℕ) (host next : Host) → (length next.root + length next.lower ≤ most_entries → all_bytes next.root + all_bytes next.lower ≤ most_bytes → IsPlanned coming (Some host) next) → IsFit coming (Some host) (sized next)
sized_fits coming host next planned =
    let many = nat_lt most_entries (length next.root + length next.lower) in
    let large = nat_lt most_bytes (all_bytes next.root + all_bytes next.lower) in
    elim many as (λ b. many ≡ b → IsFit coming (Some host) (within next (if b then Some limits.Entries else if large then Some limits.Bytes else None))) [
      | true ↦ λ _. tt
      | false ↦ λ few.
          elim large as (λ b. large ≡ b → IsFit coming (Some host) (within next (if b then Some limits.Bytes else None))) [
            | true ↦ λ _. tt
            | false ↦ λ small. planned (not_more _ _ few) (not_more _ _ small)
          ] refl
    ] refl

fitting_fits : (coming : ℕ) (host : Host) (resource path : List (List ℕ)) (es : Entries Stamp) (text : List ℕ) (intent : Intent) → IsValidHost host → IsTreeText text es → FittingImportWants host resource path es intent → IsFit coming (Some host) intent
fitting_fits coming host resource path es text intent valid tree (inl (fit, grafted)) =
    let next = changed_at host path grafted.0 in
    fit_of coming (Some host) (sized next) intent grafted.2 (sized_fits coming host next (graft_is_planned coming host path resource es grafted.0 valid tree.tree.each grafted.1))
fitting_fits coming host resource path es text intent valid tree (inr (none, is)) = fit_of coming (Some host) _ intent is tt

open_fits : (coming : ℕ) (host : Host) (resource path : List (List ℕ)) (es : Entries Stamp) (text : List ℕ) (intent : Intent) → IsValidHost host → IsTreeText text es → OpenImportWants host resource path es intent → IsFit coming (Some host) intent
open_fits coming host resource path es text intent valid tree (inl (free, wants)) = fitting_fits coming host resource path es text intent valid tree wants
open_fits coming host resource path es text intent valid tree (inr (at, under, is)) = fit_of coming (Some host) _ intent is tt

tree_fits : (coming : ℕ) (host : Host) (resource path : List (List ℕ)) (es : Entries Stamp) (text : List ℕ) (intent : Intent) → IsValidHost host → IsTreeText text es → TreeWants host resource path es intent → IsFit coming (Some host) intent
tree_fits coming host resource path es text intent valid tree (inl (free, wants)) = open_fits coming host resource path es text intent valid tree wants
tree_fits coming host resource path es text intent valid tree (inr (locked, at)) = fit_of coming (Some host) _ intent at.2 tt

text_fits : (coming : ℕ) (host : Host) (resource path : List (List ℕ)) (found : DepotText) (intent : Intent) → IsValidHost host → TextWants host resource path found intent → IsFit coming (Some host) intent
text_fits coming host resource path Absent intent valid is = fit_of coming (Some host) _ intent is tt
text_fits coming host resource path TooLong intent valid is = fit_of coming (Some host) _ intent is tt
text_fits coming host resource path (Whole text) intent valid (inl (es, tree, wants)) = tree_fits coming host resource path es text intent valid tree wants
text_fits coming host resource path (Whole text) intent valid (inr (line, first, is)) = fit_of coming (Some host) _ intent is tt

remove_fits : (coming : ℕ) (host : Host) (path : List (List ℕ)) → IsValidHost host → IsFit coming (Some host) (remove_intent host path)
remove_fits coming host path valid =
    elim (not (is_some (lookup host.root path))) as (λ b. IsFit coming (Some host) (if b then Refuses (NoEntry path) else if is_read_only host path then Refuses (ReadOnly path) else Changes (changed_at host path (cut path host.root)) Done)) [
      | true ↦ tt
      | false ↦ elim (is_read_only host path) as (λ b. IsFit coming (Some host) (if b then Refuses (ReadOnly path) else Changes (changed_at host path (cut path host.root)) Done)) [
        | true ↦ tt
        | false ↦ cut_is_planned coming host path valid
      ]
    ]

entry_fits : (coming : ℕ) (host : Host) (path : List (List ℕ)) (entry : Option (Entry HeldFile)) → IsFit coming (Some host) (tree_at host path entry)
entry_fits coming host path None = tt
entry_fits coming host path (Some entry) = elim (is_directory entry) as (λ b. IsFit coming (Some host) (if b then Answers (answers.Tree (text_below host path)) else Refuses (NotDirectory path))) [ true ↦ tt | false ↦ tt ]

text_of_tree_fits : (coming : ℕ) (host : Host) (path : List (List ℕ)) → IsFit coming (Some host) (tree_intent host path)
text_of_tree_fits coming host [] = tt
text_of_tree_fits coming host (name ∷ path) = entry_fits coming host (name ∷ path) (lookup host.root (name ∷ path))

shown_fits : (coming : ℕ) (host : Host) (path : List (List ℕ)) (entry : Option (Entry HeldFile)) → lookup host.root path ≡ entry → IsFit coming (Some host) (cat_at path entry)
shown_fits coming host path None is = tt
shown_fits coming host path (Some (Dir attributes)) is = tt
shown_fits coming host path (Some (Opaque attributes)) is = tt
shown_fits coming host path (Some (File attributes held)) is = record { tree = host.root; among = (zero, omega arith, refl); file = record { path = path; attributes = attributes; stands = is } }
shown_fits coming host path (Some (Link owner target)) is = tt
shown_fits coming host path (Some Hide) is = tt

migrate_fits : (coming : ℕ) (host : Host) (newest : Bool) → IsValidHost host → IsFit coming (Some host) (migrate_intent host newest)
migrate_fits coming host newest valid = elim newest as (λ b. IsFit coming (Some host) (if b then Answers Unchanged else Changes host Done)) [ true ↦ tt | false ↦ same_is_planned coming host valid ]

-- where there is a store, whose host is valid: in the generation after it
pub wants_fit : (seen : Seen) (files : Option Files) (command : Command) (intent : Intent) → IsValidHost seen.host → WantsOf seen files command intent → IsFit (seen.number + 1) (Some seen.host) intent
wants_fit seen files (Init arch scope hierarchies) intent valid is = fit_of (seen.number + 1) (Some seen.host) _ intent is tt
wants_fit seen files (ImportFs resource path) intent valid (found, text, wants) = text_fits (seen.number + 1) seen.host resource path found intent valid wants
wants_fit seen files (Remove path) intent valid is = fit_of (seen.number + 1) (Some seen.host) _ intent is (remove_fits (seen.number + 1) seen.host path valid)
wants_fit seen files (Sysext view) intent valid is = view_fits (seen.number + 1) seen.host seen.told extensions.Sysext view intent is
wants_fit seen files (Confext view) intent valid is = view_fits (seen.number + 1) seen.host seen.told extensions.Confext view intent is
wants_fit seen files (Tree path) intent valid is = fit_of (seen.number + 1) (Some seen.host) _ intent is (text_of_tree_fits (seen.number + 1) seen.host (meant_path path))
wants_fit seen files (Cat path) intent valid is = fit_of (seen.number + 1) (Some seen.host) _ intent is (shown_fits (seen.number + 1) seen.host path (lookup seen.host.root path) refl)
wants_fit seen files (Compare a b) intent valid is = fit_of (seen.number + 1) (Some seen.host) _ intent is tt
wants_fit seen files Check intent valid is = fit_of (seen.number + 1) (Some seen.host) _ intent is refl
wants_fit seen files Layer intent valid is = absurd is
wants_fit seen files Batch intent valid is = absurd is
wants_fit seen files (Sample images) intent valid is = absurd is
wants_fit seen files (Sysupdate component verb) intent valid is = update_fits (seen.number + 1) seen.host seen.told files component verb intent is
wants_fit seen files Components intent valid is = reply_fits (seen.number + 1) (Some seen.host) intent (components_reply seen.host intent is)
wants_fit seen files Migrate intent valid is = fit_of (seen.number + 1) (Some seen.host) _ intent is (migrate_fits (seen.number + 1) seen.host seen.newest valid)
wants_fit seen files (Mark keep) intent valid wants = mark_fits seen.number seen.host keep intent valid wants
wants_fit seen files History intent valid is = fit_of (seen.number + 1) (Some seen.host) _ intent is tt
wants_fit seen files (HistoryChanges mark) intent valid wants = reply_fits (seen.number + 1) (Some seen.host) intent (history_changes_reply seen.host mark intent wants)
wants_fit seen files (Rollback mark) intent valid is = fit_of (seen.number + 1) (Some seen.host) _ intent is (rollback_fits (seen.number + 1) seen.host mark valid)
wants_fit seen files (Forget mark) intent valid is = fit_of (seen.number + 1) (Some seen.host) _ intent is (forget_fits (seen.number + 1) seen.host mark valid)
wants_fit seen files (Portable command) intent valid wants = port_fits (seen.number + 1) seen.host seen.told command intent valid wants

-- where there is none
pub first_wants_fit : (coming : ℕ) (command : Command) (intent : Intent) → IsWellFormed command → WantsFirst command intent → IsFit coming None intent
first_wants_fit coming (Init arch scope hierarchies) intent formed (host, new, is) = fit_of coming None _ intent is (new_is_planned coming arch scope hierarchies host formed.0 formed.1 new)
first_wants_fit coming (ImportFs resource path) intent formed is = fit_of coming None _ intent is tt
first_wants_fit coming (Remove path) intent formed is = fit_of coming None _ intent is tt
first_wants_fit coming (Sysext view) intent formed is = fit_of coming None _ intent is tt
first_wants_fit coming (Confext view) intent formed is = fit_of coming None _ intent is tt
first_wants_fit coming (Tree path) intent formed is = fit_of coming None _ intent is tt
first_wants_fit coming (Cat path) intent formed is = fit_of coming None _ intent is tt
first_wants_fit coming (Compare a b) intent formed is = fit_of coming None _ intent is tt
first_wants_fit coming Check intent formed is = fit_of coming None _ intent is tt
first_wants_fit coming Layer intent formed is = absurd is
first_wants_fit coming Batch intent formed is = absurd is
first_wants_fit coming (Sample images) intent formed is = absurd is
first_wants_fit coming (Sysupdate component verb) intent formed is = fit_of coming None _ intent is tt
first_wants_fit coming Components intent formed is = fit_of coming None _ intent is tt
first_wants_fit coming Migrate intent formed is = fit_of coming None _ intent is tt
first_wants_fit coming (Mark keep) intent formed is = fit_of coming None _ intent is tt
first_wants_fit coming History intent formed is = fit_of coming None _ intent is tt
first_wants_fit coming (HistoryChanges mark) intent formed is = fit_of coming None _ intent is tt
first_wants_fit coming (Rollback mark) intent formed is = fit_of coming None _ intent is tt
first_wants_fit coming (Forget mark) intent formed is = fit_of coming None _ intent is tt
first_wants_fit coming (Portable command) intent formed is = fit_of coming None _ intent is tt
