-- A run: what it says of its words, of the store, of the folder and of what was written. Premises of what is said at its end: the
-- store is sound, the folder is quiet, all devices tell what they have, and no call failed.
use Rattle.std.specs.Prelude.{◌≡◌, ◌⊎◌, ℕ, List, length, IfSome}
use Rattle.std.specs.Io.KnownBytes.{Appends, Keeps}
use Rattle.ext_text.specs.Causes.{Rose}
use Rattle.ext_io.specs.SinkState.{SinkState}
use Rattle.ext_io.specs.Whole.{AppendsProperPrefix}
use Rattle.ext_disk.specs.Disk.{Tree, Told, DiskState, BothTold, now}
use Rattle.ext_disk.specs.Since.{Follows}
use Rattle.ext_gen.specs.Broken.{IsBroken}
use Rattle.ext_gen.specs.Sound.{IsSound}
use Rattle.ext_gen.specs.Store.{State, Stands}
use Rattle.ext_store_files.specs.LeftOvers.{most_left_overs}
use Rattle.ext_store_files.specs.Removal.{MoreThan}
use Rattle.ext_gen.specs.declared.bad_store.BadStore.TheVariants as bad_stores
use Rattle.ext_published.specs.Asked.{AskSomething, AskedOf, IsPublishAsk, IsAskWrongAt, asked_words}
use Rattle.ext_published.specs.Payload.{payload_bytes, payload_files}
use Rattle.ext_published.specs.Replies.{pub_refusal_line, published_line}
use Rattle.ext_published.specs.declared.payload.Payload.{Payload}
use Rattle.ext_published.specs.declared.refusal.PubRefusal.{PubRefusal}
use Rattle.ext_published.specs.declared.words.AskErr.{AskErr}
use Rattle.ext_published.specs.declared.words.AskErr.TheVariants as ask_errors
use Rattle.ext_publish.specs.Out.{IsQuiet, is_left_at}
use Rattle.ext_publish.specs.Refusing.{IsAllowed, IsRefused}
use Rattle.ext_publish.specs.Attempting.{EndsDone, StandsSame}
use Rattle.ext_publish.specs.Status.{PubCounts, PubCause}
use Rattle.ext_publish.specs.Stops.{StopsWell}
use Rattle.ext_publish.specs.Store.{KeepsStore, host_of_state}
use Rattle.ext_publish.specs.declared.counting.Made.{Made}
use Rattle.ext_publish.specs.declared.status.PubStatus.{PubStatus}
use Rattle.ext_publish.specs.declared.stop.Stop.{Stop}
use Rattle.ext_publish.specs.declared.stop.Stop.TheVariants as stops
use Rattle.ext_publish.specs.declared.status.PubStatus.TheVariants.{Done, Refused, Usage, WriteFault, DiskFault, OutFault, OutOfMemory, BadStore, Unfinished}

-- the three devices of a run
pub record PubDevices : Type 0 where
  pub sink : SinkState
  pub store : DiskState
  pub out : DiskState

-- how often their calls failed
abbrev pub counts_of : PubDevices → PubCounts
counts_of devices = record { sink = devices.sink.faults; store = devices.store.faults; out = devices.out.faults }

-- the words ask something, unless their first fault is told or memory ran out
abbrev pub FitsWords : List (List ℕ) → PubStatus → Type 0
FitsWords words Done = AskSomething words
FitsWords words (Refused refusal) = AskSomething words
FitsWords words (Usage place) = IsAskWrongAt words place
FitsWords words WriteFault = AskSomething words
FitsWords words DiskFault = AskSomething words
FitsWords words OutFault = AskSomething words
FitsWords words OutOfMemory = Unit {0}
FitsWords words (BadStore why) = AskSomething words
FitsWords words Unfinished = AskSomething words

-- a run that was done, of whose line a proper prefix was written
abbrev pub CutOffDone : State → AskedOf → Told → Told → SinkState → SinkState → Type 0
CutOffDone s asked d e k l = (payload : Payload) × EndsDone s asked d e payload × AppendsProperPrefix k l (published_line (length (payload_files payload)) (payload_bytes payload))

-- and one that was refused
abbrev pub CutOffRefused : State → AskedOf → Told → Told → SinkState → SinkState → Type 0
CutOffRefused s asked d e k l = (refusal : PubRefusal) × IsRefused (host_of_state s) asked (now d.places) refusal × StandsSame d e × AppendsProperPrefix k l (pub_refusal_line refusal)

-- how a run ends that was done or refused, and how one that was cut off by the sink: as one of both would
abbrev pub EndsWith : State → AskedOf → Told → Told → SinkState → SinkState → PubStatus → Type 0
EndsWith s asked d e k l Done =
    (payload : Payload) × EndsDone s asked d e payload × Appends k.written l.written (published_line (length (payload_files payload)) (payload_bytes payload))
EndsWith s asked d e k l (Refused refusal) = IsRefused (host_of_state s) asked (now d.places) refusal × StandsSame d e × Appends k.written l.written (pub_refusal_line refusal)
EndsWith s asked d e k l Unfinished = (payload : Payload) × IsAllowed (host_of_state s) asked (now d.places) payload × MoreThan most_left_overs (is_left_at asked) d.places × Keeps k.written l.written
EndsWith s asked d e k l WriteFault = CutOffDone s asked d e k l ⊎ CutOffRefused s asked d e k l
EndsWith s asked d e k l (Usage place) = Keeps k.written l.written
EndsWith s asked d e k l DiskFault = Keeps k.written l.written
EndsWith s asked d e k l OutFault = Keeps k.written l.written
EndsWith s asked d e k l OutOfMemory = Keeps k.written l.written
EndsWith s asked d e k l (BadStore why) = ⊥

-- whatever the sound store stands for: how the run ends on a quiet folder, of what is asked
abbrev pub EndsFor : AskedOf → PubStatus → PubDevices → PubDevices → Told → Told → Told → Type 0
EndsFor asked status old new store d e = (s : State) → IsSound store.places → Stands (now store.places) s → IsQuiet d.places → EndsWith s asked d e old.sink new.sink status

-- and what a stop at any moment of it leaves
abbrev pub StopsFor : AskedOf → Told → Told → Told → Type 0
StopsFor asked store d e = (s : State) → IsSound store.places → Stands (now store.places) s → StopsWell s asked d e

-- whatever the words ask: how the run ends on a quiet folder
abbrev pub EndsQuiet : List (List ℕ) → PubStatus → PubDevices → PubDevices → Told → Told → Told → Type 0
EndsQuiet words status old new store d e = (asked : AskedOf) → IsPublishAsk asked → words ≡ asked_words asked → EndsFor asked status old new store d e

-- and what a stop at any moment of it leaves
abbrev pub StopsQuiet : List (List ℕ) → Told → Told → Told → Type 0
StopsQuiet words store d e = (asked : AskedOf) → IsPublishAsk asked → words ≡ asked_words asked → StopsFor asked store d e

-- only a run that was done or refused writes, and one that was cut off
abbrev pub SaysNothing : PubStatus → SinkState → SinkState → Type 0
SaysNothing Done k l = Unit {0}
SaysNothing (Refused refusal) k l = Unit {0}
SaysNothing (Usage place) k l = l ≡ k
SaysNothing WriteFault k l = Unit {0}
SaysNothing DiskFault k l = l ≡ k
SaysNothing OutFault k l = l ≡ k
SaysNothing OutOfMemory k l = l ≡ k
SaysNothing (BadStore why) k l = l ≡ k
SaysNothing Unfinished k l = l ≡ k

-- a store is said to be broken exactly where it is, in its first faulty line
abbrev pub IsBrokenSo : PubStatus → Tree → Type 0
IsBrokenSo Done t = Unit {0}
IsBrokenSo (Refused refusal) t = Unit {0}
IsBrokenSo (Usage place) t = Unit {0}
IsBrokenSo WriteFault t = Unit {0}
IsBrokenSo DiskFault t = Unit {0}
IsBrokenSo OutFault t = Unit {0}
IsBrokenSo OutOfMemory t = Unit {0}
IsBrokenSo (BadStore (bad_stores.Broken line)) t = IsBroken t line
IsBrokenSo (BadStore (bad_stores.Damaged damage)) t = Unit {0}
IsBrokenSo Unfinished t = Unit {0}

-- the run over the three devices
pub record Publishes (words : List (List ℕ)) (old new : PubDevices) (status : PubStatus) : Type 0 where
  pub words_fit : FitsWords words status
  pub cause : PubCause (counts_of old) (counts_of new) status
  pub store : KeepsStore old.store new.store
  pub out : Follows old.out new.out
  -- where the words ask nothing, nothing was touched
  pub untouched : (place : ℕ) → status ≡ Usage place → new ≡ old
  pub silent : SaysNothing status old.sink new.sink
  pub broken : IfSome old.store.told (λ store. IsBrokenSo status (now store.places))
  pub ends : IfSome old.store.told (λ store. BothTold (EndsQuiet words status old new store) old.out.told new.out.told)
  pub stops : IfSome old.store.told (λ store. BothTold (StopsQuiet words store) old.out.told new.out.told)

-- a run whose words ask something has no other status
abbrev pub IsNoUsage : PubStatus → Type 0
IsNoUsage Done = Unit {0}
IsNoUsage (Refused refusal) = Unit {0}
IsNoUsage (Usage place) = ⊥
IsNoUsage WriteFault = Unit {0}
IsNoUsage DiskFault = Unit {0}
IsNoUsage OutFault = Unit {0}
IsNoUsage OutOfMemory = Unit {0}
IsNoUsage (BadStore why) = Unit {0}
IsNoUsage Unfinished = Unit {0}

-- the run of what is asked
pub record PublishesFor (asked : AskedOf) (old new : PubDevices) (status : PubStatus) : Type 0 where
  pub no_usage : IsNoUsage status
  pub cause : PubCause (counts_of old) (counts_of new) status
  pub store : KeepsStore old.store new.store
  pub out : Follows old.out new.out
  pub silent : SaysNothing status old.sink new.sink
  pub broken : IfSome old.store.told (λ store. IsBrokenSo status (now store.places))
  pub ends : IfSome old.store.told (λ store. BothTold (EndsFor asked status old new store) old.out.told new.out.told)
  pub stops : IfSome old.store.told (λ store. BothTold (StopsFor asked store) old.out.told new.out.told)

-- the line of a run that was done is written, or a proper prefix of it, or nothing
abbrev pub TellsDone : Made → SinkState → SinkState → PubStatus → Type 0
TellsDone made k l Done = Appends k.written l.written (published_line made.files made.bytes)
TellsDone made k l (Refused refusal) = ⊥
TellsDone made k l (Usage place) = ⊥
TellsDone made k l WriteFault = Rose k.faults l.faults × AppendsProperPrefix k l (published_line made.files made.bytes)
TellsDone made k l DiskFault = ⊥
TellsDone made k l OutFault = ⊥
TellsDone made k l OutOfMemory = l ≡ k
TellsDone made k l (BadStore why) = ⊥
TellsDone made k l Unfinished = ⊥

-- the same of a refusal
abbrev pub TellsRefused : PubRefusal → SinkState → SinkState → PubStatus → Type 0
TellsRefused refusal k l Done = ⊥
TellsRefused refusal k l (Refused told) = (told ≡ refusal) × Appends k.written l.written (pub_refusal_line refusal)
TellsRefused refusal k l (Usage place) = ⊥
TellsRefused refusal k l WriteFault = Rose k.faults l.faults × AppendsProperPrefix k l (pub_refusal_line refusal)
TellsRefused refusal k l DiskFault = ⊥
TellsRefused refusal k l OutFault = ⊥
TellsRefused refusal k l OutOfMemory = l ≡ k
TellsRefused refusal k l (BadStore why) = ⊥
TellsRefused refusal k l Unfinished = ⊥

-- the same of a run that stopped, which writes nothing but a refusal
abbrev pub TellsStop : Stop → SinkState → SinkState → PubStatus → Type 0
TellsStop (stops.Refused refusal) k l status = TellsRefused refusal k l status
TellsStop stops.OutOfMemory k l status = (status ≡ OutOfMemory) × (l ≡ k)
TellsStop stops.DiskFault k l status = (status ≡ DiskFault) × (l ≡ k)
TellsStop stops.OutFault k l status = (status ≡ OutFault) × (l ≡ k)
TellsStop (stops.BadStore why) k l status = (status ≡ BadStore why) × (l ≡ k)
TellsStop stops.Unfinished k l status = (status ≡ Unfinished) × (l ≡ k)

-- how a run ends whose words ask nothing, or were not read
abbrev pub status_of_words : AskErr → PubStatus
status_of_words ask_errors.OutOfMemory = OutOfMemory
status_of_words (ask_errors.Usage place) = Usage place
