-- A run: what it says of its words, of the store and of what was written.
use Rattle.std.specs.Prelude.{◌≡◌, ◌⊎◌, ℕ, List, Option, Some, None, IfSome}
use Rattle.std.specs.Io.KnownBytes.{Appends}
use Rattle.ext_text.specs.Causes.{Rose}
use Rattle.ext_io.specs.SinkState.{SinkState}
use Rattle.ext_io.specs.Whole.{AppendsProperPrefix}
use Rattle.ext_disk.specs.Disk.{Tree, DiskState, now}
use Rattle.ext_tree.specs.Tree.{Entries}
use Rattle.ext_host.specs.Held.{HeldFile}
use Rattle.ext_gen.specs.Broken.{IsBroken}
use Rattle.ext_gen.specs.Opened.{Generation}
use Rattle.ext_gen.specs.Store.{Points}
use Rattle.ext_erofs.specs.HomePath.{homed_of}
use Rattle.ext_erofs.specs.Homed.{homed_entries}
use Rattle.ext_erofs.specs.Image.{image}
use Rattle.ext_erofs.specs.Links.{first_long_link}
use Rattle.ext_mount.specs.Asked.{AsksImage, IsImageAsk, IsImageWrongAt, image_ask_words}
use Rattle.ext_mount.specs.declared.asked.ImageAsk.{ImageAsk}
use Rattle.ext_mount.specs.Asking.{HasImage, IsImageRefused, image_asked}
use Rattle.ext_mount.specs.Printed.{WritesPrefix}
use Rattle.ext_mount.specs.Replies.{image_refusal_line}
use Rattle.ext_mount.specs.Status.{ImageCause, ImageCounts}
use Rattle.ext_mount.specs.StoreRead.{LeavesStore}
use Rattle.ext_mount.specs.declared.refusal.ImageRefusal.{ImageRefusal}
use Rattle.ext_mount.specs.declared.refusal.ImageRefusal.TheVariants.{LongLink}
use Rattle.ext_mount.specs.declared.status.ImageStatus.{ImageStatus}
use Rattle.ext_mount.specs.declared.status.ImageStatus.TheVariants.{Done, Refused, Usage, WriteFault, DiskFault, OutOfMemory, BadStore}

-- the two devices of a run
pub record ImageDevices : Type 0 where
  pub sink : SinkState
  pub store : DiskState

-- how often their calls failed
abbrev pub image_counts_of : ImageDevices → ImageCounts
image_counts_of devices = record { sink = devices.sink.faults; store = devices.store.faults }

-- the words ask for an image, unless their first fault is told
abbrev pub FitsImageWords : List (List ℕ) → ImageStatus → Type 0
FitsImageWords words Done = AsksImage words
FitsImageWords words (Refused refusal) = AsksImage words
FitsImageWords words (Usage place) = IsImageWrongAt words place
FitsImageWords words WriteFault = AsksImage words
FitsImageWords words DiskFault = AsksImage words
FitsImageWords words OutOfMemory = AsksImage words
FitsImageWords words (BadStore line) = AsksImage words

-- an image of which a proper prefix was written
abbrev pub CutOffImage : Option Generation → ImageAsk → SinkState → SinkState → Type 0
CutOffImage opened ask k l = (root : Entries HeldFile) × HasImage opened ask root × AppendsProperPrefix k l (image_asked ask root)

-- an image of which a prefix was written
abbrev pub BegunImage : Option Generation → ImageAsk → SinkState → SinkState → Type 0
BegunImage opened ask k l = (root : Entries HeldFile) × HasImage opened ask root × WritesPrefix k l (image_asked ask root)

-- a refusal of whose line a proper prefix was written
abbrev pub CutOffRefusal : Option Generation → ImageAsk → SinkState → SinkState → Type 0
CutOffRefusal opened ask k l = (refusal : ImageRefusal) × IsImageRefused opened ask refusal × AppendsProperPrefix k l (image_refusal_line refusal)

-- what is written of what a store points to, and how the run ends then
abbrev pub EndsImage : Option Generation → ImageAsk → SinkState → SinkState → ImageStatus → Type 0
EndsImage opened ask k l Done = (root : Entries HeldFile) × HasImage opened ask root × Appends k.written l.written (image_asked ask root)
EndsImage opened ask k l (Refused refusal) = IsImageRefused opened ask refusal × Appends k.written l.written (image_refusal_line refusal)
EndsImage opened ask k l (Usage place) = l ≡ k
EndsImage opened ask k l WriteFault = CutOffImage opened ask k l ⊎ CutOffRefusal opened ask k l
EndsImage opened ask k l DiskFault = l ≡ k
EndsImage opened ask k l OutOfMemory = (l ≡ k) ⊎ BegunImage opened ask k l
EndsImage opened ask k l (BadStore line) = ⊥

-- whatever the store points to
abbrev pub EndsOver : ImageAsk → ImageStatus → SinkState → SinkState → Tree → Type 0
EndsOver ask status k l t = (opened : Option Generation) → Points t opened → EndsImage opened ask k l status

-- whatever the words ask
abbrev pub EndsAsked : List (List ℕ) → ImageStatus → SinkState → SinkState → Tree → Type 0
EndsAsked words status k l t = (ask : ImageAsk) → IsImageAsk ask → words ≡ image_ask_words ask → EndsOver ask status k l t

-- only a run that was done, refused or cut short writes
abbrev pub WritesNothing : ImageStatus → SinkState → SinkState → Type 0
WritesNothing Done k l = Unit {0}
WritesNothing (Refused refusal) k l = Unit {0}
WritesNothing (Usage place) k l = l ≡ k
WritesNothing WriteFault k l = Unit {0}
WritesNothing DiskFault k l = l ≡ k
WritesNothing OutOfMemory k l = Unit {0}
WritesNothing (BadStore line) k l = l ≡ k

-- a store is said to be broken exactly where it is, in its first faulty line
abbrev pub IsBrokenImage : ImageStatus → Tree → Type 0
IsBrokenImage Done t = Unit {0}
IsBrokenImage (Refused refusal) t = Unit {0}
IsBrokenImage (Usage place) t = Unit {0}
IsBrokenImage WriteFault t = Unit {0}
IsBrokenImage DiskFault t = Unit {0}
IsBrokenImage OutOfMemory t = Unit {0}
IsBrokenImage (BadStore line) t = IsBroken t line

-- the run over both devices
pub record PrintsImage (words : List (List ℕ)) (old new : ImageDevices) (status : ImageStatus) : Type 0 where
  pub words_fit : FitsImageWords words status
  pub cause : ImageCause (image_counts_of old) (image_counts_of new) status
  pub store : LeavesStore old.store new.store
  -- where the words ask nothing, nothing was touched
  pub untouched : (place : ℕ) → status ≡ Usage place → new ≡ old
  pub silent : WritesNothing status old.sink new.sink
  pub broken : IfSome old.store.told (λ d. IsBrokenImage status (now d.places))
  pub ends : IfSome old.store.told (λ d. EndsAsked words status old.sink new.sink (now d.places))

-- a run whose words ask for an image has no other status
abbrev pub IsNoImageUsage : ImageStatus → Type 0
IsNoImageUsage Done = Unit {0}
IsNoImageUsage (Refused refusal) = Unit {0}
IsNoImageUsage (Usage place) = ⊥
IsNoImageUsage WriteFault = Unit {0}
IsNoImageUsage DiskFault = Unit {0}
IsNoImageUsage OutOfMemory = Unit {0}
IsNoImageUsage (BadStore line) = Unit {0}

-- the run of what is asked
pub record PrintsFor (ask : ImageAsk) (old new : ImageDevices) (status : ImageStatus) : Type 0 where
  pub no_usage : IsNoImageUsage status
  pub cause : ImageCause (image_counts_of old) (image_counts_of new) status
  pub store : LeavesStore old.store new.store
  pub silent : WritesNothing status old.sink new.sink
  pub broken : IfSome old.store.told (λ d. IsBrokenImage status (now d.places))
  pub ends : IfSome old.store.told (λ d. EndsOver ask status old.sink new.sink (now d.places))

-- what is written of what was opened: a fault only of the sink, where its count rose
abbrev pub PrintsOpened : Option Generation → ImageAsk → SinkState → SinkState → ImageStatus → Type 0
PrintsOpened opened ask k l Done = EndsImage opened ask k l Done
PrintsOpened opened ask k l (Refused refusal) = EndsImage opened ask k l (Refused refusal)
PrintsOpened opened ask k l (Usage place) = ⊥
PrintsOpened opened ask k l WriteFault = Rose k.faults l.faults × EndsImage opened ask k l WriteFault
PrintsOpened opened ask k l DiskFault = ⊥
PrintsOpened opened ask k l OutOfMemory = EndsImage opened ask k l OutOfMemory
PrintsOpened opened ask k l (BadStore line) = ⊥

-- what is written of a tree without such a link: its image, a proper prefix of it, or some prefix where memory ran out
abbrev pub PutsTree : Entries HeldFile → ℕ → SinkState → SinkState → ImageStatus → Type 0
PutsTree root built k l Done = Appends k.written l.written (image (homed_entries homed_of root) built)
PutsTree root built k l (Refused refusal) = ⊥
PutsTree root built k l (Usage place) = ⊥
PutsTree root built k l WriteFault = Rose k.faults l.faults × AppendsProperPrefix k l (image (homed_entries homed_of root) built)
PutsTree root built k l DiskFault = ⊥
PutsTree root built k l OutOfMemory = WritesPrefix k l (image (homed_entries homed_of root) built)
PutsTree root built k l (BadStore line) = ⊥

-- what is written of a refusal: its line, a proper prefix of it, or nothing
abbrev pub PrintsRefusal : ImageRefusal → SinkState → SinkState → ImageStatus → Type 0
PrintsRefusal refusal k l Done = ⊥
PrintsRefusal refusal k l (Refused told) = (told ≡ refusal) × Appends k.written l.written (image_refusal_line refusal)
PrintsRefusal refusal k l (Usage place) = ⊥
PrintsRefusal refusal k l WriteFault = Rose k.faults l.faults × AppendsProperPrefix k l (image_refusal_line refusal)
PrintsRefusal refusal k l DiskFault = ⊥
PrintsRefusal refusal k l OutOfMemory = l ≡ k
PrintsRefusal refusal k l (BadStore line) = ⊥

-- what is written of a tree: its image, or the line of the first link that is too long
abbrev pub PrintsTree : Entries HeldFile → ℕ → SinkState → SinkState → ImageStatus → Type 0
PrintsTree root built k l status =
    ((first_long_link root ≡ None) × PutsTree root built k l status)
    ⊎ ((path : List (List ℕ)) × (first_long_link root ≡ Some path) × ((status ≡ OutOfMemory) × (l ≡ k) ⊎ PrintsRefusal (LongLink path) k l status))
