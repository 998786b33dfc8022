-- Laws of the machine: each step has one outcome, refreshing is unmerging and then merging, and what no line touches stays.
use Rattle.std.specs.Prelude.{◌≡◌, ◌≢◌, ◌⊎◌, ℕ, ◌+◌, Bool, List, ◌++◌, length, Contains, Option, Some, Ok, IsTrue}
use Rattle.std.specs.List.{AllByRecursion}
use Rattle.ext_text.specs.Path.{is_prefix}
use Rattle.ext_text.specs.declared.extension.Extension.{Extension}
use Rattle.ext_text.specs.declared.extension.Extension.TheVariants as extensions
use Rattle.ext_depot.specs.Depot.{DepotState, Files}
use Rattle.ext_disk.specs.Disk.{DiskState, Tree}
use Rattle.ext_vers.specs.Version.{version_cmp}
use Rattle.ext_host.specs.Held.{HeldFile}
use Rattle.ext_host.specs.declared.home.Home.{Home}
use Rattle.ext_host.specs.declared.host.Host.{Host}
use Rattle.ext_host.specs.declared.manifest.Manifest.{Manifest}
use Rattle.ext_transfer.specs.declared.transfer.Transfer.{Transfer}
use Rattle.ext_installed.specs.declared.instance.Instance.{Instance}
use Rattle.ext_installed.specs.declared.instance.Instances.{Instances}
use Rattle.ext_updated.specs.declared.piece.Piece.{Piece}
use Rattle.ext_update.specs.Laws.{IsProtected}
use Rattle.ext_units.specs.ImageName.{image_name}
use Rattle.ext_gen.specs.Preparing.{host_before}
use Rattle.ext_gen.specs.PreparingIndex.{coming_index}
use Rattle.ext_store_files.specs.Appended.{Raises}
use Rattle.ext_store_files.specs.Names.{current_text}
use Rattle.ext_gen.specs.Opened.{Generation, IsOpened}
use Rattle.ext_gen.specs.Store.{Stands, State, at, generation_in, none}
use Rattle.ext_cmd.specs.Replies.{answer_text}
use Rattle.ext_cmd.specs.declared.answer.Answer.{Answer}
use Rattle.ext_cmd.specs.declared.answer.Answer.TheVariants.{Order, Updated}
use Rattle.ext_cmd.specs.declared.command.Command.{Command}
use Rattle.ext_cmd.specs.declared.command.Command.TheVariants.{Compare, Confext, Forget, Mark, Portable, Rollback, Sample, Sysext, Sysupdate}
use Rattle.ext_cmd.specs.declared.command.UpdateVerb.{UpdateVerb}
use Rattle.ext_cmd.specs.declared.command.UpdateVerb.TheVariants as asks
use Rattle.ext_cmd.specs.declared.command.ViewCommand.{ViewCommand}
use Rattle.ext_cmd.specs.declared.command.ViewCommand.TheVariants as views
use Rattle.ext_cmd.specs.declared.portable.AttachWords.{AttachWords}
use Rattle.ext_cmd.specs.declared.portable.PortCommand.TheVariants.{Detach}
use Rattle.ext_cmd.specs.declared.refusal.Refusal.{Refusal}
use Rattle.ext_intents.specs.declared.intent.Intent.TheVariants.{Changes}
use Rattle.ext_top.specs.Alone.{ComesAlone}
use Rattle.ext_top.specs.Exits.{EndsLines, IsOnTheWay, Line, LineComes, Standing, does, durable}
use Rattle.ext_top.specs.Machine.{Outcome, Step, gives}
use Rattle.ext_top.specs.Returning.{IsBackAt}
use Rattle.ext_top.specs.Services.{GivesBack, attaching}
use Rattle.ext_top.specs.Untouched.{After, HasInstalled, IsInstalledAs, IsSameAt, IsUntouched, IsWellFormedLine, installed_in}
use Rattle.ext_top.specs.Updating.{FindsInstances, UpdatesHost, pieces_in}
use Rattle.ext_top.specs.Working.{Replaced, WantsOn}

-- the reply to a source is one: a command without a store, but for a sample, has one outcome for the same bytes
abbrev pub OneReply : Type 0
OneReply =
    (command : Command) (bytes : List ℕ) (a b : Outcome) → ((images : ℕ) → command ≢ Sample images) → ComesAlone command bytes a → ComesAlone command bytes b → a ≡ b

-- `compare` is never refused: its reply is its line
abbrev pub CompareIsDone : Type 0
CompareIsDone =
    (a b bytes : List ℕ) (outcome : Outcome) → ComesAlone (Compare a b) bytes outcome
    → outcome ≡ gives none (answer_text (Order (version_cmp a b)))

-- of a state for which a store stands, and of a depot that tells its files, the step of a command has one outcome
abbrev pub OneOutcome : Type 0
OneOutcome =
    (t : Tree) (s : State) (files : Files) (command : Command) (a b : Outcome)
    → Stands t s
    → Step s (Some files) command a
    → Step s (Some files) command b
    → a ≡ b

-- a command of a class
abbrev pub view_of : Extension → ViewCommand → Command
view_of extensions.Sysext view = Sysext view
view_of extensions.Confext view = Confext view

-- of a state for which a store stands, refreshing leaves the host that unmerging and then merging leave, its trees and names, and
-- gives the same reply as that merging
abbrev pub RefreshLeavesWhatBothLeave : Type 0
RefreshLeavesWhatBothLeave =
    (t : Tree) (s u v w : State) (files : Option Files) (class : Extension) (force : Bool) (first second third : List ℕ)
    → Stands t s
    → Step s files (view_of class views.Unmerge) (gives u first)
    → Step u files (view_of class (views.Merge force)) (gives v second)
    → Step s files (view_of class (views.Refresh force)) (gives w third)
    → (host_before (generation_in w) ≡ host_before (generation_in v)) × (third ≡ second)

-- a state on the way of lines is the state after some of the first of them
abbrev pub OnTheWayIsAfterSome : Type 0
OnTheWayIsAfterSome =
    (s x : State) (files : Option Files) (lines : List Line)
    → IsOnTheWay s files lines x
    → (first : List Line) × (others : List Line) × (lines ≡ first ++ others) × After s files first x

-- and each such state is on the way
abbrev pub AfterSomeIsOnTheWay : Type 0
AfterSomeIsOnTheWay =
    (s x : State) (files : Option Files) (first others : List Line)
    → After s files first x
    → IsOnTheWay s files (first ++ others) x

-- lines that no stop ends leave a store that durably stands for the state after all of them
abbrev pub DoneLinesLeaveTheStateAfter : Type 0
DoneLinesLeaveTheStateAfter =
    (last refusal : Option Refusal) (s : State) (files : Option Files) (lines : List Line) (standing : Standing) (bytes : List ℕ)
    → EndsLines last s files lines (Ok refusal) standing bytes
    → (x : State) × After s files lines x × (standing ≡ durable x)

-- What no line touches stays: from a state for which a store stands, in a state that lines lead to, none of which touches a path
-- that is at, above or below a path, the base has the same entries at and below that path, and the files there have the same
-- bytes. Where there was no host, it has no entries there; then the lines have to be such as words give.
abbrev pub WhatNoLineTouchesStays : (State → Option Files → List Line → State → Type 0) → Type 0
WhatNoLineTouchesStays LeadTo =
    (t : Tree) (s x : State) (files : Option Files) (lines : List Line) (path entry : List (List ℕ))
    → Stands t s
    → (s ≡ none → AllByRecursion IsWellFormedLine lines)
    → IsUntouched path s files lines
    → LeadTo s files lines x
    → IsTrue (is_prefix path entry)
    → IsSameAt s x entry

-- an installed manifest whose path no line touches stays installed, and the files at and below its path in the base are its items
abbrev pub UntouchedManifestsStay : (State → Option Files → List Line → State → Type 0) → Type 0
UntouchedManifestsStay LeadTo =
    (t : Tree) (s x : State) (files : Option Files) (lines : List Line) (manifest : Manifest)
    → Stands t s
    → Contains (installed_in s) manifest
    → IsUntouched manifest.path s files lines
    → LeadTo s files lines x
    → HasInstalled x manifest

-- A done update that changed the state: its version, which it replied, and that each of its resources is installed as it was put, in
-- every state that later lines lead to, none of which touches a path that is at, above or below the resource's.
pub record AddsVersion (LeadTo : State → Option Files → List Line → State → Type 0) (u v : State) (files : Option Files) (component wanted : Option (List ℕ)) (reply : List ℕ) : Type 0 where
  pub update : UpdatesHost u files component wanted
  pub reply_is : reply ≡ answer_text (Updated update.version)
  pub stays : (x : State) (later : List Line) (piece : Piece HeldFile) → Contains (pieces_in update) piece → IsUntouched piece.path v files later → LeadTo v files later x → IsInstalledAs x piece

-- Every version that an update of some lines added, and that no later line touches, equals its manifest: from a state for which a
-- store stands, a done update leaves the state as it is, or adds a version so.
abbrev pub AddedVersionsStay : (State → Option Files → List Line → State → Type 0) → Type 0
AddedVersionsStay LeadTo =
    (t : Tree) (s u v : State) (files : Option Files) (lines : List Line) (component wanted : Option (List ℕ)) (reply : List ℕ)
    → Stands t s
    → (s ≡ none → AllByRecursion IsWellFormedLine lines)
    → After s files lines u
    → LineComes u files (does (Sysupdate component (asks.Update wanted))) (gives v reply)
    → (v ≡ u) ⊎ AddsVersion LeadTo u v files component wanted reply

-- the transfers that are on and their instances, of which each one of a version that its transfer protects stands in the later state
-- as in the earlier one, at and below its path
pub record KeepsProtected (u v : State) (files : Option Files) (component : Option (List ℕ)) : Type 0 where
  pub transfers : List Transfer
  pub instances : Instances
  pub finds : FindsInstances u files component transfers instances
  pub stands : (item : Instance) (rest : List (List ℕ)) → IsProtected transfers instances.items item → IsSameAt u v (item.path ++ rest)

-- No update and no making of room removes a protected version: from a state for which a store stands, after any lines, a done one
-- leaves the state as it is, or keeps what is protected.
abbrev pub ProtectedVersionsStay : Type 0
ProtectedVersionsStay =
    (t : Tree) (s u v : State) (files : Option Files) (lines : List Line) (component : Option (List ℕ)) (verb : UpdateVerb) (reply : List ℕ)
    → Stands t s
    → (s ≡ none → AllByRecursion IsWellFormedLine lines)
    → After s files lines u
    → LineComes u files (does (Sysupdate component verb)) (gives v reply)
    → (v ≡ u) ⊎ KeepsProtected u v files component

-- A rollback gives back what was marked: from a state for which a store stands, after a done `mark` and any lines, a done rollback to
-- it leaves a state that has all that the first one had. Its generation's number tells the mark.
abbrev pub RollbackGivesWhatWasMarked : Type 0
RollbackGivesWhatWasMarked =
    (t : Tree) (g : Generation) (contents : Home → List ℕ) (u v w : State) (files : Option Files) (keep : Option ℕ) (lines : List Line) (reply last : List ℕ)
    → Stands t (at g contents)
    → Step (at g contents) files (Mark keep) (gives u reply)
    → After u files lines v
    → Step v files (Rollback g.number) (gives w last)
    → IsBackAt (at g contents) w

-- Detaching undoes attaching: from a state for which a store stands, where an image was attached, or attached anew, detaching it gives
-- back what there was before, or what there was without the attachments that went for it. The store may lack the room, and there is no
-- other refusal.
abbrev pub DetachingUndoesAttaching : Type 0
DetachingUndoesAttaching =
    (t : Tree) (s u : State) (files later : Option Files) (again : Bool) (words : AttachWords) (reply : List ℕ) (outcome : Outcome)
    → Stands t s
    → Step s files (Portable (attaching again words)) (gives u reply)
    → Step u later (Portable (Detach (image_name words.image))) outcome
    → GivesBack again words.image s u outcome

-- the commands of marks that change a host
abbrev pub IsMarking : Command → Type 0
IsMarking (Mark keep) = Unit {0}
IsMarking (Rollback mark) = Unit {0}
IsMarking (Forget mark) = Unit {0}
IsMarking _ = ⊥

-- a done `mark`, `rollback` or `forget` appends exactly its index and the line of `next`: it writes no file
abbrev pub MarksAppendTheirIndex : Type 0
MarksAppendTheirIndex =
    (g coming : Generation) (command : Command) (old new : DiskState) (depot : DepotState) (answer : Answer) (next : Host)
    → IsOpened g
    → IsMarking command
    → WantsOn (Some g) old depot.contents command (Changes next answer)
    → Replaced (Some g) next old new depot coming
    → Raises (length (coming_index coming.number coming.host) + length (current_text coming.number)) old new
