-- A run between its words and its line: what it says of the store, of the folder and of what is published.
use Rattle.std.specs.Prelude.{◌≡◌, ℕ, ◌+◌, List, length, Option, Some, None, IfErr, IfSome, Result, Ok, Err}
use Rattle.ext_text.specs.Causes.{Rose}
use Rattle.ext_disk.specs.Disk.{Tree, Told, DiskState, BothTold, now}
use Rattle.ext_disk.specs.Since.{Follows}
use Rattle.ext_gen.specs.Broken.{IsBroken}
use Rattle.ext_gen.specs.Opened.{Generation}
use Rattle.ext_gen.specs.Sound.{IsSound}
use Rattle.ext_gen.specs.Store.{State, Stands}
use Rattle.ext_tree.specs.Tree.{Entries}
use Rattle.ext_tree.specs.declared.entry.Entry.{Entry}
use Rattle.ext_tree.specs.declared.entry.Entry.TheVariants as entries
use Rattle.ext_host.specs.Drawn.{HasFile}
use Rattle.ext_host.specs.Held.{HeldFile, IsStampOf}
use Rattle.ext_host.specs.Shelf.{stored}
use Rattle.ext_host.specs.declared.host.Host.{Host}
use Rattle.ext_store_files.specs.HeldFiles.{body_told}
use Rattle.ext_store_files.specs.LeftOvers.{most_left_overs}
use Rattle.ext_store_files.specs.Removal.{AtMost, MoreThan}
use Rattle.ext_gen.specs.declared.bad_store.BadStore.TheVariants as bad_stores
use Rattle.ext_published.specs.Asked.{AskedOf}
use Rattle.ext_published.specs.Payload.{HasNoneAt, HasOtherAt, payload_bytes, payload_files}
use Rattle.ext_published.specs.Published.{IsPublished}
use Rattle.ext_published.specs.declared.payload.Payload.{Payload}
use Rattle.ext_published.specs.declared.refusal.PubRefusal.TheVariants.{NoStore, NoEntry, NotFile, LimitPath, OutKind, LimitText, OutManifest, Listed}
use Rattle.ext_publish.specs.Out.{IsQuiet, files_standing, is_left_at}
use Rattle.ext_publish.specs.Refusing.{IsAllowed, IsRefused}
use Rattle.ext_publish.specs.Carrying.{AreDurable, ChangesThere}
use Rattle.ext_publish.specs.Stops.{StopsWell}
use Rattle.ext_publish.specs.Store.{KeepsStore, bytes_in, host_of_state}
use Rattle.ext_publish.specs.declared.counting.Made.{Made}
use Rattle.ext_publish.specs.declared.stop.Stop.{Stop}
use Rattle.ext_publish.specs.declared.stop.Stop.TheVariants.{OutOfMemory, Refused, DiskFault, OutFault, BadStore, Unfinished}

-- what was published, of this state
pub record EndsDone (s : State) (asked : AskedOf) (d e : Told) (payload : Payload) : Type 0 where
  pub allowed : IsAllowed (host_of_state s) asked (now d.places) payload
  pub few : AtMost most_left_overs (is_left_at asked) d.places
  pub published : IsPublished (files_standing (now e.places)) asked payload (bytes_in s)
  pub durable : AreDurable e.places asked payload
  pub elsewhere : ChangesThere (now d.places) (now e.places) asked

-- the same stands everywhere
abbrev pub StandsSame : Told → Told → Type 0
StandsSame d e = (p : List (List ℕ)) → (e.places p).node ≡ (d.places p).node

-- there is nothing to be published at the path: a refusal tells why
abbrev pub HasNoPayload : Entries HeldFile → List (List ℕ) → Stop → Type 0
HasNoPayload root path OutOfMemory = Unit {0}
HasNoPayload root path (Refused NoStore) = ⊥
HasNoPayload root path (Refused (NoEntry at)) = (at ≡ path) × HasNoneAt root path
HasNoPayload root path (Refused (NotFile at)) = (at ≡ path) × HasOtherAt root path
HasNoPayload root path (Refused LimitPath) = ⊥
HasNoPayload root path (Refused (OutKind at)) = ⊥
HasNoPayload root path (Refused LimitText) = ⊥
HasNoPayload root path (Refused (OutManifest line)) = ⊥
HasNoPayload root path (Refused (Listed name)) = ⊥
HasNoPayload root path DiskFault = ⊥
HasNoPayload root path OutFault = ⊥
HasNoPayload root path (BadStore why) = ⊥
HasNoPayload root path Unfinished = ⊥

-- so many files, with so many bytes
pub record IsMadeOf (made : Made) (payload : Payload) : Type 0 where
  pub files : made.files ≡ length (payload_files payload)
  pub bytes : made.bytes ≡ payload_bytes payload

-- with an entry more: a file counts, with its bytes
abbrev pub IsWithEntry : Made → Entry HeldFile → Made → Type 0
IsWithEntry made (entries.File attributes held) more = (more.files ≡ made.files + 1) × (more.bytes ≡ made.bytes + held.stamp.size)
IsWithEntry made (entries.Dir attributes) more = more ≡ made
IsWithEntry made (entries.Opaque attributes) more = more ≡ made
IsWithEntry made (entries.Link owner target) more = more ≡ made
IsWithEntry made entries.Hide more = more ≡ made

-- how it ends
abbrev pub EndsAttempt : Result Made Stop → State → AskedOf → Told → Told → Type 0
EndsAttempt (Ok made) s asked d e = (payload : Payload) × EndsDone s asked d e payload × IsMadeOf made payload
EndsAttempt (Err (Refused refusal)) s asked d e = IsRefused (host_of_state s) asked (now d.places) refusal × StandsSame d e
EndsAttempt (Err Unfinished) s asked d e =
    (payload : Payload) × IsAllowed (host_of_state s) asked (now d.places) payload × MoreThan most_left_overs (is_left_at asked) d.places
EndsAttempt (Err (BadStore why)) s asked d e = ⊥
EndsAttempt (Err DiskFault) s asked d e = Unit {0}
EndsAttempt (Err OutFault) s asked d e = Unit {0}
EndsAttempt (Err OutOfMemory) s asked d e = Unit {0}

-- how it ends in a folder that was quiet, and what a stop leaves
pub record AttemptsOn (result : Result Made Stop) (s : State) (asked : AskedOf) (d e : Told) : Type 0 where
  pub ends : IsQuiet d.places → EndsAttempt result s asked d e
  pub stops : StopsWell s asked d e

-- the store tells the bytes of each file that is seen on the host, and they have its listed stamp
pub record TellsHost (store : DiskState) (host : Host) (s : State) : Type 0 where
  pub is : host_of_state s ≡ Some host
  pub tells : (held : HeldFile) → HasFile host.root held → body_told store held.body ≡ stored (bytes_in s held)
  pub stamped : (held : HeldFile) → HasFile host.root held → IsStampOf (bytes_in s held) held.stamp

-- the same, of what was opened
abbrev pub TellsOpened : DiskState → Option Generation → State → Type 0
TellsOpened store None s = host_of_state s ≡ None
TellsOpened store (Some g) s = TellsHost store g.host s

-- why it stopped: a fault only where that count rose
abbrev pub AttemptCause : DiskState → DiskState → DiskState → DiskState → Stop → Type 0
AttemptCause store after old new OutOfMemory = Unit {0}
AttemptCause store after old new (Refused refusal) = Unit {0}
AttemptCause store after old new DiskFault = Rose store.faults after.faults
AttemptCause store after old new OutFault = Rose old.faults new.faults
AttemptCause store after old new (BadStore why) = Unit {0}
AttemptCause store after old new Unfinished = Unit {0}

-- a store is said to be broken exactly where it is, in its first faulty line
abbrev pub IsBrokenStop : Tree → Stop → Type 0
IsBrokenStop t OutOfMemory = Unit {0}
IsBrokenStop t (Refused refusal) = Unit {0}
IsBrokenStop t DiskFault = Unit {0}
IsBrokenStop t OutFault = Unit {0}
IsBrokenStop t (BadStore (bad_stores.Broken line)) = IsBroken t line
IsBrokenStop t (BadStore (bad_stores.Damaged damage)) = Unit {0}
IsBrokenStop t Unfinished = Unit {0}

-- the same of what was opened: no more is said to be broken
abbrev pub HostCause : DiskState → DiskState → DiskState → DiskState → Stop → Type 0
HostCause store after old new OutOfMemory = Unit {0}
HostCause store after old new (Refused refusal) = Unit {0}
HostCause store after old new DiskFault = Rose store.faults after.faults
HostCause store after old new OutFault = Rose old.faults new.faults
HostCause store after old new (BadStore (bad_stores.Broken line)) = ⊥
HostCause store after old new (BadStore (bad_stores.Damaged damage)) = Unit {0}
HostCause store after old new Unfinished = Unit {0}

-- whichever state the sound store stands for
abbrev pub AttemptsOver : Result Made Stop → AskedOf → Told → Told → Told → Type 0
AttemptsOver result asked store d e = IsSound store.places → (s : State) → Stands (now store.places) s → AttemptsOn result s asked d e

-- the run on both disks
pub record Attempts (result : Result Made Stop) (asked : AskedOf) (old_store new_store old_out new_out : DiskState) : Type 0 where
  pub store : KeepsStore old_store new_store
  pub out : Follows old_out new_out
  pub cause : IfErr result (AttemptCause old_store new_store old_out new_out)
  pub broken : IfSome old_store.told (λ d. IfErr result (IsBrokenStop (now d.places)))
  pub told : IfSome old_store.told (λ d. BothTold (AttemptsOver result asked d) old_out.told new_out.told)
