-- What a host has to merge: each image that is found, with what its release file says of it. What bytes a file has is what
-- a shelf gives: bytes of its stamp, and those that the shelf tells, where it tells them.
use Rattle.std.specs.Prelude.{◌≡◌, ◌⊎◌, ℕ, Bool, List, Contains, None, Result, Ok, Err}
use Rattle.std.specs.FinMap.{FinMap}
use Rattle.ext_lines.specs.ByteOrder.{bytes_cmp}
use Rattle.ext_text.specs.Extension.{class_of}
use Rattle.ext_text.specs.declared.extension.Extension.{Extension}
use Rattle.ext_tree.specs.Tree.{Entries}
use Rattle.ext_host.specs.Held.{HeldFile}
use Rattle.ext_host.specs.Planning.{IsBaseTree, content_size}
use Rattle.ext_host.specs.Shelf.{Told}
use Rattle.ext_host.specs.declared.host.Host.{Host}
use Rattle.ext_release.specs.Release.{IsFirstFault, IsRelease}
use Rattle.ext_match.specs.Verdict.{IsVerdict}
use Rattle.ext_find.specs.Found.{AreFound}
use Rattle.ext_find.specs.HostRelease.{IsGiven, IsReleaseFile, ReleaseFileAt, ShelfFault}
use Rattle.ext_find.specs.declared.found.FoundItem.{FoundItem}
use Rattle.ext_find.specs.declared.found.FoundKind.{FoundKind}
use Rattle.ext_find.specs.declared.found.FoundKind.TheVariants as found
use Rattle.ext_view.specs.Hierarchies.{hierarchies_at}
use Rattle.ext_view.specs.Image.{HasReleaseFile}
use Rattle.ext_view.specs.Matched.{AreMatched}
use Rattle.ext_view.specs.declared.surveyed.SurveyItem.{SurveyItem}
use Rattle.ext_view.specs.declared.surveyed.SurveyKind.{SurveyKind}
use Rattle.ext_view.specs.declared.surveyed.SurveyKind.TheVariants.{Masked, Raw, Broken, BadRelease, Image}
use Rattle.ext_view.specs.declared.errors.ViewErr.{ViewErr}
use Rattle.ext_view.specs.declared.errors.ViewErr.TheVariants as errors

-- it has these bytes
pub record HasHostRelease (told : HeldFile → Told) (base : Entries HeldFile) (bytes : List ℕ) : Type 0 where
  pub file : HeldFile
  pub is_file : IsReleaseFile base file
  pub given : IsGiven (told file) file bytes

-- it reads as this release
pub record IsHostRelease (told : HeldFile → Told) (base : Entries HeldFile) (release : FinMap bytes_cmp (List ℕ)) : Type 0 where
  pub bytes : List ℕ
  pub has : HasHostRelease told base bytes
  pub reads : IsRelease bytes release

-- what is found in the base of the host
abbrev pub IsFoundIn : Host → Entries HeldFile → Extension → List FoundItem → Type 0
IsFoundIn host base class items = AreFound content_size base (class_of class) host.arch (hierarchies_at class host) items

-- what the bytes of its release file make of an image: the first line that is faulty, or else the verdict against the host
abbrev pub MakesOf : FinMap bytes_cmp (List ℕ) → Host → Extension → Bool → List ℕ → SurveyKind → Type 0
MakesOf release host class force bytes Masked = ⊥
MakesOf release host class force bytes Raw = ⊥
MakesOf release host class force bytes (Broken why) = ⊥
MakesOf release host class force bytes (BadRelease line) = IsFirstFault bytes line
MakesOf release host class force bytes (Image verdict) =
    (own : FinMap bytes_cmp (List ℕ)) × IsRelease bytes own × IsVerdict release own class host.scope host.arch force verdict

-- what is said of the image of this name at the place, by its release file
pub record IsJudged (told : HeldFile → Told) (host : Host) (base : Entries HeldFile) (class : Extension) (force : Bool)
    (release : FinMap bytes_cmp (List ℕ)) (place : List (List ℕ)) (name : List ℕ) (kind : SurveyKind) : Type 0 where
  pub file : HeldFile
  pub is_file : HasReleaseFile base class place name file
  pub bytes : List ℕ
  pub given : IsGiven (told file) file bytes
  pub makes : MakesOf release host class force bytes kind

-- what is said of what was found: of an image that can be used what its release file says, and else what it is
abbrev pub IsKindOf : (HeldFile → Told) → Host → Entries HeldFile → Extension → Bool → FinMap bytes_cmp (List ℕ) → List (List ℕ) → List ℕ
    → FoundKind → SurveyKind → Type 0
IsKindOf told host base class force release place name found.Masked kind = kind ≡ Masked
IsKindOf told host base class force release place name found.Raw kind = kind ≡ Raw
IsKindOf told host base class force release place name (found.Broken why) kind = kind ≡ Broken why
IsKindOf told host base class force release place name found.Image kind = IsJudged told host base class force release place name kind

-- what is said of a found item
pub record IsItemOf (told : HeldFile → Told) (host : Host) (base : Entries HeldFile) (class : Extension) (force : Bool)
    (release : FinMap bytes_cmp (List ℕ)) (found_item : FoundItem) (item : SurveyItem) : Type 0 where
  pub name : item.name ≡ found_item.name
  pub place : item.place ≡ found_item.place
  pub kind : IsKindOf told host base class force release found_item.place found_item.name found_item.kind item.kind

-- an item for each that is found, in its order
pub record AreSurveyed (told : HeldFile → Told) (host : Host) (base : Entries HeldFile) (class : Extension) (force : Bool)
    (release : FinMap bytes_cmp (List ℕ)) (items : List SurveyItem) : Type 0 where
  pub found_items : List FoundItem
  pub are_found : IsFoundIn host base class found_items
  pub each : AreMatched (IsItemOf told host base class force release) found_items items

-- the survey of a host with this base
pub record IsSurveyOf (told : HeldFile → Told) (host : Host) (base : Entries HeldFile) (class : Extension) (force : Bool)
    (items : List SurveyItem) : Type 0 where
  pub release : FinMap bytes_cmp (List ℕ)
  pub is_release : IsHostRelease told base release
  pub surveyed : AreSurveyed told host base class force release items

-- a file that is read: the release file of the host, or that of an image that is found and can be used
pub record IsImageFile (host : Host) (base : Entries HeldFile) (class : Extension) (held : HeldFile) : Type 0 where
  pub found_items : List FoundItem
  pub are_found : IsFoundIn host base class found_items
  pub item : FoundItem
  pub among : Contains found_items item
  pub kind : item.kind ≡ found.Image
  pub is_file : HasReleaseFile base class item.place item.name held

-- a file that a survey reads: the host's release file, or that of an image
abbrev pub IsRead : Host → Entries HeldFile → Extension → HeldFile → Type 0
IsRead host base class held = IsReleaseFile base held ⊎ IsImageFile host base class held

-- by the base of the host: its survey; or that it has no release file, or a faulty one; or that the shelf did not give one of
-- the files that are read
abbrev pub SurveysAs : (HeldFile → Told) → ℕ → ℕ → Host → Entries HeldFile → Extension → Bool → Result (List SurveyItem) ViewErr → Type 0
SurveysAs told old new host base class force (Ok items) = IsSurveyOf told host base class force items
SurveysAs told old new host base class force (Err errors.OutOfMemory) = Unit {0}
SurveysAs told old new host base class force (Err errors.Merged) = ⊥
SurveysAs told old new host base class force (Err errors.NoHostRelease) = ReleaseFileAt base None
SurveysAs told old new host base class force (Err (errors.BadHostRelease line)) =
    (bytes : List ℕ) × HasHostRelease told base bytes × IsFirstFault bytes line
SurveysAs told old new host base class force (Err (errors.Shelf e)) =
    (held : HeldFile) × IsRead host base class held × ShelfFault old new (told held) held e
SurveysAs told old new host base class force (Err (errors.Limit which)) = ⊥

-- the survey of a host, or why there is none
abbrev pub Surveys : (HeldFile → Told) → ℕ → ℕ → Host → Extension → Bool → Result (List SurveyItem) ViewErr → Type 0
Surveys told old new host class force (Err errors.OutOfMemory) = Unit {0}
Surveys told old new host class force result =
    (base : Entries HeldFile) × IsBaseTree host base × SurveysAs told old new host base class force result
