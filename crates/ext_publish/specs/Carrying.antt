-- What a run does in the depot's folder once it is known what is published: it looks whether that may be published there, removes
-- what an earlier run left, writes it, and switches the manifest.
use Rattle.std.specs.Prelude.{◌≡◌, ◌⊎◌, ℕ, true, false, List, [], None, Some, IfSome, Result, Ok, Err}
use Rattle.ext_text.specs.Causes.{Rose}
use Rattle.ext_disk.specs.Disk.{Tree, Places, Told, DiskState, is_durable, is_synced, now}
use Rattle.ext_disk.specs.Fixed.{IsUnchangedAt}
use Rattle.ext_disk.specs.Since.{IsLater, Since}
use Rattle.ext_host.specs.Held.{HeldFile, IsStampOf}
use Rattle.ext_host.specs.Shelf.{IsFound, IsKeptAs, stored}
use Rattle.ext_sums.specs.Manifest.{IsFirstFault}
use Rattle.ext_store_files.specs.HeldFiles.{body_told}
use Rattle.ext_store_files.specs.LeftOvers.{most_left_overs}
use Rattle.ext_store_files.specs.Removal.{AtMost, IsClear, MoreThan}
use Rattle.ext_gen.specs.declared.bad_store.BadStore.TheVariants as bad_stores
use Rattle.ext_published.specs.Asked.{AskedOf}
use Rattle.ext_published.specs.Manifest.{ListsNeither, ListsOne}
use Rattle.ext_published.specs.Places.{published_manifest_path, published_resource_path, tree_text_path}
use Rattle.ext_published.specs.Published.{IsPublished}
use Rattle.ext_published.specs.declared.payload.Payload.{Payload}
use Rattle.ext_published.specs.declared.refusal.PubRefusal.{PubRefusal}
use Rattle.ext_published.specs.declared.refusal.PubRefusal.TheVariants.{NoStore, NoEntry, NotFile, LimitPath, OutKind, LimitText, OutManifest, Listed}
use Rattle.ext_publish.specs.Out.{IsQuiet, files_standing, first_missing, is_left_at, is_missing_at, is_published_at, manifest_bytes, wrong_kind}
use Rattle.ext_publish.specs.Refusing.{HasDepotPaths, HasShortTexts}
use Rattle.ext_publish.specs.declared.look_err.LookErr.{LookErr}
use Rattle.ext_publish.specs.declared.look_err.LookErr.TheVariants as look_errors
use Rattle.ext_publish.specs.Filling.{IsResourceFilled, IsPublishedFileOf}
use Rattle.ext_publish.specs.Folders.{IsCalmAt}
use Rattle.ext_publish.specs.Stops.{HasNewManifest, IsLeftElsewhere}
use Rattle.ext_publish.specs.Switching.{IsResourceDurable}
use Rattle.ext_publish.specs.declared.stop.Stop.{Stop}
use Rattle.ext_publish.specs.declared.stop.Stop.TheVariants.{OutOfMemory, Refused, DiskFault, OutFault, BadStore, Unfinished}

-- the store tells the bytes of each file that is published, and they have its listed stamp
pub record Tells (store : DiskState) (payload : Payload) (bytes_of : HeldFile → List ℕ) : Type 0 where
  pub tells : (held : HeldFile) → IsPublishedFileOf payload held → body_told store held.body ≡ stored (bytes_of held)
  pub stamped : (held : HeldFile) → IsPublishedFileOf payload held → IsStampOf (bytes_of held) held.stamp

-- it may be published where this stands
pub record IsPublishable (asked : AskedOf) (t : Tree) (payload : Payload) : Type 0 where
  pub paths : HasDepotPaths asked payload
  pub kinds : wrong_kind t asked ≡ None
  pub texts : HasShortTexts asked payload t
  pub manifest : ListsNeither (manifest_bytes t asked) asked.name

-- it may not, for the first reason that holds
abbrev pub IsUnpublishable : AskedOf → Tree → Payload → PubRefusal → Type 0
IsUnpublishable asked t payload NoStore = ⊥
IsUnpublishable asked t payload (NoEntry path) = ⊥
IsUnpublishable asked t payload (NotFile path) = ⊥
IsUnpublishable asked t payload LimitPath = ¬ HasDepotPaths asked payload
IsUnpublishable asked t payload (OutKind path) = HasDepotPaths asked payload × (wrong_kind t asked ≡ Some path)
IsUnpublishable asked t payload LimitText = HasDepotPaths asked payload × (wrong_kind t asked ≡ None) × ¬ HasShortTexts asked payload t
IsUnpublishable asked t payload (OutManifest line) =
    HasDepotPaths asked payload × (wrong_kind t asked ≡ None) × HasShortTexts asked payload t × IsFirstFault (manifest_bytes t asked) line
IsUnpublishable asked t payload (Listed name) =
    (name ≡ asked.name) × HasDepotPaths asked payload × (wrong_kind t asked ≡ None) × HasShortTexts asked payload t × ListsOne (manifest_bytes t asked) name

-- the paths that a published resource has are durable
abbrev pub AreDurable : Places → AskedOf → Payload → Type 0
AreDurable e asked payload = (is_durable e (published_manifest_path asked) ≡ true) × IsResourceDurable e asked payload

-- elsewhere the same stands: not at what is published, and not at folders that were made for it
abbrev pub ChangesThere : Tree → Tree → AskedOf → Type 0
ChangesThere before after asked = (p : List (List ℕ)) → is_published_at asked p ≡ false → is_missing_at before asked p ≡ false → after p ≡ before p

-- it was published
pub record IsCarriedOut (asked : AskedOf) (d e : Told) (payload : Payload) (bytes_of : HeldFile → List ℕ) : Type 0 where
  pub allowed : IsPublishable asked (now d.places) payload
  pub few : AtMost most_left_overs (is_left_at asked) d.places
  pub published : IsPublished (files_standing (now e.places)) asked payload bytes_of
  pub durable : AreDurable e.places asked payload
  pub elsewhere : ChangesThere (now d.places) (now e.places) asked

-- how it ends
abbrev pub EndsCarrying : {T : Type 0} → Result T Stop → AskedOf → Payload → (HeldFile → List ℕ) → Told → Told → Type 0
EndsCarrying (Ok _) asked payload bytes_of d e = IsCarriedOut asked d e payload bytes_of
EndsCarrying (Err (Refused refusal)) asked payload bytes_of d e = IsUnpublishable asked (now d.places) payload refusal × (now e.places ≡ now d.places)
EndsCarrying (Err Unfinished) asked payload bytes_of d e = IsPublishable asked (now d.places) payload × MoreThan most_left_overs (is_left_at asked) d.places
EndsCarrying (Err (BadStore why)) asked payload bytes_of d e = ⊥
EndsCarrying (Err DiskFault) asked payload bytes_of d e = Unit {0}
EndsCarrying (Err OutFault) asked payload bytes_of d e = Unit {0}
EndsCarrying (Err OutOfMemory) asked payload bytes_of d e = Unit {0}

-- what a stop leaves where the folder was there: the old manifest, or its absence, or, where it may be published, the new one with all
-- that it lists; and elsewhere what stood before
pub record IsLeftBy (before t : Tree) (asked : AskedOf) (payload : Payload) (bytes_of : HeldFile → List ℕ) : Type 0 where
  pub manifest : (t (published_manifest_path asked) ≡ before (published_manifest_path asked))
      ⊎ (IsPublishable asked before payload × HasNewManifest before t asked payload bytes_of)
  pub elsewhere : (p : List (List ℕ)) → is_published_at asked p ≡ false → t p ≡ before p

-- what a stop at any moment leaves, where the folder was there, and where it was missing
pub record LeavesWell (asked : AskedOf) (payload : Payload) (bytes_of : HeldFile → List ℕ) (d e : Told) : Type 0 where
  pub there : first_missing (now d.places) [] asked.folder ≡ None → (t : Tree) → Since e d.clock t → IsLeftBy (now d.places) t asked payload bytes_of
  pub missing : (first : List (List ℕ)) → first_missing (now d.places) [] asked.folder ≡ Some first → (t : Tree) → Since e d.clock t → IsLeftElsewhere (now d.places) t first

-- how it is published in a folder that was quiet, by a store that tells the bytes
pub record Carries {T : Type 0} (result : Result T Stop) (store : DiskState) (asked : AskedOf) (payload : Payload) (d e : Told) : Type 0 where
  pub ends : IsQuiet d.places → (bytes_of : HeldFile → List ℕ) → Tells store payload bytes_of → EndsCarrying result asked payload bytes_of d e
  pub stops : IsQuiet d.places → (bytes_of : HeldFile → List ℕ) → Tells store payload bytes_of → LeavesWell asked payload bytes_of d e

-- why it was not published
abbrev pub CarryCause : Payload → DiskState → DiskState → DiskState → DiskState → Stop → Type 0
CarryCause payload store after old new OutOfMemory = Unit {0}
CarryCause payload store after old new (Refused refusal) = Unit {0}
CarryCause payload store after old new DiskFault = Rose store.faults after.faults
CarryCause payload store after old new OutFault = Rose old.faults new.faults
CarryCause payload store after old new (BadStore (bad_stores.Broken line)) = ⊥
CarryCause payload store after old new (BadStore (bad_stores.Damaged damage)) =
    (held : HeldFile) × IsPublishedFileOf payload held × IsKeptAs held damage.home damage.listed × IsFound damage.listed (body_told store held.body) damage.found
CarryCause payload store after old new Unfinished = Unit {0}

-- the same of work in the folder alone, with left-overs
abbrev pub LeftOverCause : DiskState → DiskState → Stop → Type 0
LeftOverCause old new OutOfMemory = Unit {0}
LeftOverCause old new (Refused refusal) = ⊥
LeftOverCause old new DiskFault = ⊥
LeftOverCause old new OutFault = Rose old.faults new.faults
LeftOverCause old new (BadStore why) = ⊥
LeftOverCause old new Unfinished = Unit {0}

-- what an earlier run left is gone, where not too much of it stood
abbrev pub EndsClear : {T : Type 0} → Result T Stop → AskedOf → Places → Places → Type 0
EndsClear (Ok _) asked d e = AtMost most_left_overs (is_left_at asked) d × IsClear (is_left_at asked) e
EndsClear (Err Unfinished) asked d e = MoreThan most_left_overs (is_left_at asked) d
EndsClear (Err (Refused refusal)) asked d e = Unit {0}
EndsClear (Err (BadStore why)) asked d e = Unit {0}
EndsClear (Err DiskFault) asked d e = Unit {0}
EndsClear (Err OutFault) asked d e = Unit {0}
EndsClear (Err OutOfMemory) asked d e = Unit {0}

-- the resource is written and its names are synced, but the manifest is still the old one
pub record IsResourceWritten (store : DiskState) (asked : AskedOf) (payload : Payload) (e : Places) : Type 0 where
  pub filled : IsResourceFilled store asked payload e
  pub text : is_synced (e (tree_text_path asked)) ≡ true
  pub resource : is_synced (e (published_resource_path asked)) ≡ true

-- where it is done, so it is
abbrev pub EndsWritten : {T : Type 0} → Result T Stop → DiskState → AskedOf → Payload → DiskState → Type 0
EndsWritten (Ok _) store asked payload new = IfSome new.told (λ e. IsResourceWritten store asked payload e.places)
EndsWritten (Err stop) store asked payload new = Unit {0}

-- what stood before the switch: left-overs are gone, and nothing changed but there and at folders that were missing
pub record IsCleared (asked : AskedOf) (d c : Told) : Type 0 where
  pub later : IsLater d c
  pub out : (p : List (List ℕ)) → is_left_at asked p ≡ false → is_missing_at (now d.places) asked p ≡ false → IsUnchangedAt d c p
  pub few : AtMost most_left_overs (is_left_at asked) d.places
  pub calm : IsQuiet d.places → (p : List (List ℕ)) → is_left_at asked p ≡ false → IsCalmAt c.places p
  pub manifest : (c.places (published_manifest_path asked)).node ≡ (d.places (published_manifest_path asked)).node

-- why what is asked may not be published, as a reason why a run stops
abbrev pub LookStops : AskedOf → LookErr → Stop → Type 0
LookStops asked look_errors.OutOfMemory stop = stop ≡ OutOfMemory
LookStops asked look_errors.OutFault stop = stop ≡ OutFault
LookStops asked look_errors.LimitPath stop = stop ≡ Refused LimitPath
LookStops asked (look_errors.OutKind path) stop = stop ≡ Refused (OutKind path)
LookStops asked look_errors.LimitText stop = stop ≡ Refused LimitText
LookStops asked (look_errors.OutManifest line) stop = stop ≡ Refused (OutManifest line)
LookStops asked look_errors.Listed stop = (stop ≡ OutOfMemory) ⊎ (stop ≡ Refused (Listed asked.name))
