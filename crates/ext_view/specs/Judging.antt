-- What the code says of found items, one after the other.
use Rattle.std.specs.Prelude.{◌≡◌, ℕ, Bool, List, ◌∷◌, ◌++◌, Result, Ok, Err}
use Rattle.std.specs.FinMap.{FinMap}
use Rattle.ext_lines.specs.ByteOrder.{bytes_cmp}
use Rattle.ext_text.specs.declared.extension.Extension.{Extension}
use Rattle.ext_tree.specs.Tree.{Entries}
use Rattle.ext_host.specs.Held.{HeldFile}
use Rattle.ext_host.specs.Shelf.{Told}
use Rattle.ext_host.specs.declared.host.Host.{Host}
use Rattle.ext_host.specs.declared.shelf.ShelfErr.{ShelfErr}
use Rattle.ext_find.specs.HostRelease.{ShelfFault}
use Rattle.ext_find.specs.declared.found.FoundItem.{FoundItem}
use Rattle.ext_find.specs.declared.found.FoundKind.{FoundKind}
use Rattle.ext_find.specs.declared.found.FoundKind.TheVariants as found
use Rattle.ext_view.specs.Image.{HasReleaseAt, HasReleaseFile}
use Rattle.ext_view.specs.Matched.{AreMatched}
use Rattle.ext_view.specs.Surveying.{IsItemOf, IsJudged, IsKindOf}
use Rattle.ext_view.specs.declared.surveyed.SurveyItem.{SurveyItem}
use Rattle.ext_view.specs.declared.surveyed.SurveyKind.{SurveyKind}
use Rattle.ext_view.specs.declared.errors.ViewErr.{ViewErr}
use Rattle.ext_view.specs.declared.errors.ViewErr.TheVariants as errors

-- a fact of an image that can be used
abbrev pub WhereImage : FoundKind → Type 0 → Type 0
WhereImage found.Masked P = Unit {0}
WhereImage found.Raw P = Unit {0}
WhereImage (found.Broken why) P = Unit {0}
WhereImage found.Image P = P

-- where the item is an image that can be used, its release file is where it says
abbrev pub IsSound : Entries HeldFile → Extension → FoundItem → Type 0
IsSound base class item = WhereImage item.kind (HasReleaseAt base class item.place item.name item.release)

-- the shelf failed at the release file of the image of this name at the place
abbrev pub FailsAt : (HeldFile → Told) → ℕ → ℕ → Entries HeldFile → Extension → List (List ℕ) → List ℕ → ShelfErr → Type 0
FailsAt told old new base class place name e =
    (held : HeldFile) × HasReleaseFile base class place name held × ShelfFault old new (told held) held e

-- what is said of an image that can be used, or that the shelf failed
abbrev pub JudgesAs : (HeldFile → Told) → ℕ → ℕ → Host → Entries HeldFile → Extension → Bool → FinMap bytes_cmp (List ℕ) → List (List ℕ)
    → List ℕ → Result SurveyKind ViewErr → Type 0
JudgesAs told old new host base class force release place name (Ok kind) = IsJudged told host base class force release place name kind
JudgesAs told old new host base class force release place name (Err errors.OutOfMemory) = Unit {0}
JudgesAs told old new host base class force release place name (Err (errors.Shelf e)) = FailsAt told old new base class place name e
JudgesAs told old new host base class force release place name (Err e) = ⊥

-- what is said of an item of a kind, or that the shelf failed at an image
abbrev pub KindsAs : (HeldFile → Told) → ℕ → ℕ → Host → Entries HeldFile → Extension → Bool → FinMap bytes_cmp (List ℕ) → List (List ℕ)
    → List ℕ → FoundKind → Result SurveyKind ViewErr → Type 0
KindsAs told old new host base class force release place name kind (Ok said) =
    IsKindOf told host base class force release place name kind said
KindsAs told old new host base class force release place name kind (Err errors.OutOfMemory) = Unit {0}
KindsAs told old new host base class force release place name kind (Err (errors.Shelf e)) =
    (kind ≡ found.Image) × FailsAt told old new base class place name e
KindsAs told old new host base class force release place name kind (Err e) = ⊥

-- what is said of an item, or that the shelf failed at it
abbrev pub ItemsAs : (HeldFile → Told) → ℕ → ℕ → Host → Entries HeldFile → Extension → Bool → FinMap bytes_cmp (List ℕ) → FoundItem
    → Result SurveyItem ViewErr → Type 0
ItemsAs told old new host base class force release item (Ok said) = IsItemOf told host base class force release item said
ItemsAs told old new host base class force release item (Err errors.OutOfMemory) = Unit {0}
ItemsAs told old new host base class force release item (Err (errors.Shelf e)) =
    (item.kind ≡ found.Image) × FailsAt told old new base class item.place item.name e
ItemsAs told old new host base class force release item (Err e) = ⊥

-- the shelf failed at one of the items, an image that can be used
pub record FailsAmong (told : HeldFile → Told) (old new : ℕ) (base : Entries HeldFile) (class : Extension) (items : List FoundItem)
    (e : ShelfErr) : Type 0 where
  pub item : FoundItem
  pub before : List FoundItem
  pub after : List FoundItem
  pub among : items ≡ before ++ item ∷ after
  pub kind : item.kind ≡ found.Image
  pub fails : FailsAt told old new base class item.place item.name e

-- what is said of all items, one by one
abbrev pub ListsAs : (HeldFile → Told) → ℕ → ℕ → Host → Entries HeldFile → Extension → Bool → FinMap bytes_cmp (List ℕ) → List FoundItem
    → Result (List SurveyItem) ViewErr → Type 0
ListsAs told old new host base class force release items (Ok said) = AreMatched (IsItemOf told host base class force release) items said
ListsAs told old new host base class force release items (Err errors.OutOfMemory) = Unit {0}
ListsAs told old new host base class force release items (Err (errors.Shelf e)) = FailsAmong told old new base class items e
ListsAs told old new host base class force release items (Err e) = ⊥
