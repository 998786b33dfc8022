-- What a run looks at before it changes anything, part by part, in the order of the refusals.
use Rattle.std.specs.Prelude.{◌≡◌, ℕ, ◌⊎◌, ◌<◌, ◌≤◌, Bool, true, nat_le, List, [], length, Option, Some, None, IfSome, Result, Ok, Err}
use Rattle.sha2.specs.Sha256.{sha256}
use Rattle.ext_text.specs.Causes.{Rose}
use Rattle.ext_disk.specs.Disk.{Tree, DiskState, is_file, is_folder, now}
use Rattle.ext_sums.specs.Manifest.{IsFirstFault}
use Rattle.ext_published.specs.Asked.{AskedOf}
use Rattle.ext_published.specs.Manifest.{ListsNeither, ListsOne, most_published_text}
use Rattle.ext_published.specs.Places.{ChecksFiles, published_manifest_path}
use Rattle.ext_published.specs.declared.payload.Payload.{Payload}
use Rattle.ext_published.specs.declared.payload.Payload.TheVariants.{Directory, File}
use Rattle.ext_published.specs.declared.manifest.ManifestErr.{ManifestErr}
use Rattle.ext_published.specs.declared.manifest.ManifestErr.TheVariants as manifest_errors
use Rattle.ext_published.specs.declared.places.PlacesErr.{PlacesErr}
use Rattle.ext_published.specs.declared.places.PlacesErr.TheVariants as places_errors
use Rattle.ext_store_files.specs.declared.reading.Found.{Found}
use Rattle.ext_store_files.specs.declared.reading.Found.TheVariants as found
use Rattle.ext_store_files.specs.declared.errors.ReadErr.{ReadErr}
use Rattle.ext_store_files.specs.declared.errors.ReadErr.TheVariants as read_errors
use Rattle.ext_publish.specs.Out.{manifest_bytes, wrong_kind}
use Rattle.ext_publish.specs.Refusing.{HasDepotPaths, HasShortManifest, HasShortText, HasShortTexts}
use Rattle.ext_publish.specs.declared.look_err.LookErr.{LookErr}
use Rattle.ext_publish.specs.declared.look_err.LookErr.TheVariants.{OutOfMemory, OutFault, LimitPath, OutKind, LimitText, OutManifest, Listed}

-- it holds of what stands, where that is told
abbrev pub HoldsNow : DiskState → (Tree → Type 0) → Type 0
HoldsNow out P = IfSome out.told (λ d. P (now d.places))

-- why the paths are not given
abbrev pub look_err_of_places : PlacesErr → LookErr
look_err_of_places places_errors.OutOfMemory = OutOfMemory
look_err_of_places places_errors.Limit = LimitPath

-- why a file of the depot's folder is not read
abbrev pub look_err_of_read : ReadErr → LookErr
look_err_of_read read_errors.DiskFault = OutFault
look_err_of_read read_errors.OutOfMemory = OutOfMemory

-- why a manifest may not list what is asked
abbrev pub look_err_of_manifest : ManifestErr → LookErr
look_err_of_manifest manifest_errors.OutOfMemory = OutOfMemory
look_err_of_manifest (manifest_errors.Faulty line) = OutManifest line
look_err_of_manifest manifest_errors.Listed = Listed

-- there are no paths, since one passes the limits of a path
abbrev pub NoPaths : AskedOf → Payload → LookErr → Type 0
NoPaths asked payload OutOfMemory = Unit {0}
NoPaths asked payload OutFault = ⊥
NoPaths asked payload LimitPath = ¬ HasDepotPaths asked payload
NoPaths asked payload (OutKind path) = ⊥
NoPaths asked payload LimitText = ⊥
NoPaths asked payload (OutManifest line) = ⊥
NoPaths asked payload Listed = ⊥

-- the paths of a payload's files, below the path of the resource
abbrev pub ChecksPayload : List (List ℕ) → Payload → Result (Unit {0}) PlacesErr → Type 0
ChecksPayload at (Directory tree) result = ChecksFiles at tree result
ChecksPayload at (File held) (Ok _) = Unit {0}
ChecksPayload at (File held) (Err e) = ⊥

-- why nothing is known of what stands at paths of the depot's folder: the disk had a fault, memory ran out, or this path is told
abbrev pub KindCause : DiskState → DiskState → (Tree → Option (List (List ℕ))) → LookErr → Type 0
KindCause old new wrong OutOfMemory = Unit {0}
KindCause old new wrong OutFault = Rose old.faults new.faults
KindCause old new wrong LimitPath = ⊥
KindCause old new wrong (OutKind path) = HoldsNow old (λ t. wrong t ≡ Some path)
KindCause old new wrong LimitText = ⊥
KindCause old new wrong (OutManifest line) = ⊥
KindCause old new wrong Listed = ⊥

-- the same, of the manifest alone
abbrev pub ManifestKindCause : DiskState → DiskState → List (List ℕ) → LookErr → Type 0
ManifestKindCause old new manifest OutOfMemory = Unit {0}
ManifestKindCause old new manifest OutFault = Rose old.faults new.faults
ManifestKindCause old new manifest LimitPath = ⊥
ManifestKindCause old new manifest (OutKind path) = (path ≡ manifest) × HoldsNow old (λ t. is_folder (t manifest) ≡ true)
ManifestKindCause old new manifest LimitText = ⊥
ManifestKindCause old new manifest (OutManifest line) = ⊥
ManifestKindCause old new manifest Listed = ⊥

-- the same, of a path at which no file should stand
abbrev pub KindOfFileCause : DiskState → DiskState → List (List ℕ) → LookErr → Type 0
KindOfFileCause old new at OutOfMemory = Unit {0}
KindOfFileCause old new at OutFault = Rose old.faults new.faults
KindOfFileCause old new at LimitPath = ⊥
KindOfFileCause old new at (OutKind path) = (path ≡ at) × HoldsNow old (λ t. true ≡ is_file (t path))
KindOfFileCause old new at LimitText = ⊥
KindOfFileCause old new at (OutManifest line) = ⊥
KindOfFileCause old new at Listed = ⊥

-- a text, if there is one, has at most 67,108,864 bytes
abbrev pub is_short : Option (List ℕ) → Bool
is_short None = true
is_short (Some text) = nat_le (length text) most_published_text

-- a directory's tree text is too long, or memory ran out
abbrev pub ShortTextCause : Payload → LookErr → Type 0
ShortTextCause payload OutOfMemory = Unit {0}
ShortTextCause payload OutFault = ⊥
ShortTextCause payload LimitPath = ⊥
ShortTextCause payload (OutKind path) = ⊥
ShortTextCause payload LimitText = ¬ HasShortText payload
ShortTextCause payload (OutManifest line) = ⊥
ShortTextCause payload Listed = ⊥

-- why the old manifest is not given: it is too long, or a folder stands there
abbrev pub OldCause : DiskState → DiskState → AskedOf → LookErr → Type 0
OldCause old new asked OutOfMemory = Unit {0}
OldCause old new asked OutFault = Rose old.faults new.faults
OldCause old new asked LimitPath = ⊥
OldCause old new asked (OutKind path) = HoldsNow old (λ t. (path ≡ published_manifest_path asked) × (is_folder (t (published_manifest_path asked)) ≡ true))
OldCause old new asked LimitText = HoldsNow old (λ t. most_published_text < length (manifest_bytes t asked))
OldCause old new asked (OutManifest line) = ⊥
OldCause old new asked Listed = ⊥

-- what is made of what was found where the manifest should stand
abbrev pub ManifestFound : List (List ℕ) → Found → Result (List ℕ) LookErr → Type 0
ManifestFound manifest (found.File text) (Ok bytes) = (bytes ≡ text) × (length text ≤ most_published_text)
ManifestFound manifest (found.File text) (Err e) = (e ≡ LimitText) × (most_published_text < length text)
ManifestFound manifest found.Absent (Ok bytes) = bytes ≡ []
ManifestFound manifest found.Absent (Err e) = ⊥
ManifestFound manifest found.TooLong (Ok bytes) = ⊥
ManifestFound manifest found.TooLong (Err e) = e ≡ LimitText
ManifestFound manifest found.Folder (Ok bytes) = ⊥
ManifestFound manifest found.Folder (Err e) = (e ≡ OutOfMemory) ⊎ (e ≡ OutKind manifest)

-- the digest of a text, if there is one
abbrev pub digest_of_text : Option (List ℕ) → List ℕ
digest_of_text None = sha256 []
digest_of_text (Some text) = sha256 text

-- why there is no new manifest
abbrev pub NewCause : AskedOf → Payload → List ℕ → LookErr → Type 0
NewCause asked payload text OutOfMemory = Unit {0}
NewCause asked payload text OutFault = ⊥
NewCause asked payload text LimitPath = ⊥
NewCause asked payload text (OutKind path) = ⊥
NewCause asked payload text LimitText = ¬ HasShortManifest asked payload text
NewCause asked payload text (OutManifest line) = HasShortManifest asked payload text × IsFirstFault text line
NewCause asked payload text Listed = HasShortManifest asked payload text × ListsOne text asked.name

-- why what is asked may not be published, or is not known to be: the first reason that holds
abbrev pub LookCause : DiskState → DiskState → AskedOf → Payload → LookErr → Type 0
LookCause old new asked payload OutOfMemory = Unit {0}
LookCause old new asked payload OutFault = Rose old.faults new.faults
LookCause old new asked payload LimitPath = ¬ HasDepotPaths asked payload
LookCause old new asked payload (OutKind path) = HasDepotPaths asked payload × HoldsNow old (λ t. wrong_kind t asked ≡ Some path)
LookCause old new asked payload LimitText = HasDepotPaths asked payload × HoldsNow old (λ t. (wrong_kind t asked ≡ None) × ¬ HasShortTexts asked payload t)
LookCause old new asked payload (OutManifest line) =
    HasDepotPaths asked payload × HoldsNow old (λ t. (wrong_kind t asked ≡ None) × HasShortTexts asked payload t × IsFirstFault (manifest_bytes t asked) line)
LookCause old new asked payload Listed =
    HasDepotPaths asked payload × HoldsNow old (λ t. (wrong_kind t asked ≡ None) × HasShortTexts asked payload t × ListsOne (manifest_bytes t asked) asked.name)

-- it may be published, where what stands is told
pub record MayPublish (out : DiskState) (asked : AskedOf) (payload : Payload) : Type 0 where
  pub paths : HasDepotPaths asked payload
  pub told : HoldsNow out (λ t. (wrong_kind t asked ≡ None) × HasShortTexts asked payload t × ListsNeither (manifest_bytes t asked) asked.name)
