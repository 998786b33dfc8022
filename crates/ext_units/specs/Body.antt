-- The image of a portable service: its tree, and its release file, which is looked for as a host's own is, after os-release(5).
-- What bytes a file has is what a shelf gives: bytes of its stamp, and those that the shelf tells, where it tells them.
use Rattle.std.specs.Prelude.{◌≡◌, ℕ, List, IsTrue, Option, Some, None, Result, Ok, Err}
use Rattle.ext_text.specs.declared.arch.Arch.{Arch}
use Rattle.ext_tree.specs.Part.{part}
use Rattle.ext_tree.specs.Tree.{Entries, is_directory_or_root}
use Rattle.ext_walk.specs.Leads.{LeadsToDirectory}
use Rattle.ext_walk.specs.Walk.{Ends}
use Rattle.ext_host.specs.Held.{HeldFile}
use Rattle.ext_host.specs.Shelf.{Told}
use Rattle.ext_host.specs.declared.shelf.ShelfErr.{ShelfErr}
use Rattle.ext_release.specs.Release.{IsFirstFault, IsRelease}
use Rattle.ext_find.specs.HostRelease.{IsGiven, IsReleaseFile, ReleaseFileAt, ShelfFault}
use Rattle.ext_units.specs.Image.{IsImageAt}
use Rattle.ext_units.specs.declared.body.Body.{Body}
use Rattle.ext_units.specs.declared.errors.BodyErr.{BodyErr}
use Rattle.ext_units.specs.declared.errors.BodyErr.TheVariants as errors
use Rattle.ext_units.specs.declared.image.Image.{Image}

-- the tree of the image at the place: what stands below the directory to which the place leads
pub record IsTreeOf (base : Entries HeldFile) (place : List (List ℕ)) (tree : Entries HeldFile) : Type 0 where
  pub directory : List (List ℕ)
  pub leads : Ends base place directory
  pub open_ : IsTrue (is_directory_or_root base directory)
  pub below : tree ≡ part directory base

-- that tree, or that the place leads to no directory
abbrev pub TreeAt : Entries HeldFile → List (List ℕ) → Option (Entries HeldFile) → Type 0
TreeAt base place None = ¬ LeadsToDirectory base place
TreeAt base place (Some tree) = IsTreeOf base place tree

-- the image has a release file, and bytes that the shelf gives of it have P
pub record ReleaseFileHas (told : HeldFile → Told) (tree : Entries HeldFile) (P : List ℕ → Type 0) : Type 0 where
  pub held : HeldFile
  pub is_file : IsReleaseFile tree held
  pub bytes : List ℕ
  pub given : IsGiven (told held) held bytes
  pub has : P bytes

-- the shelf does not give the release file of the image
pub record ReleaseFileFails (told : HeldFile → Told) (old new : ℕ) (tree : Entries HeldFile) (e : ShelfErr) : Type 0 where
  pub held : HeldFile
  pub is_file : IsReleaseFile tree held
  pub fault : ShelfFault old new (told held) held e

-- the image at the place: its tree, and what its release file assigns
pub record IsBody (told : HeldFile → Told) (base : Entries HeldFile) (place : List (List ℕ)) (body : Body) : Type 0 where
  pub place_is : body.place ≡ place
  pub is_tree : IsTreeOf base place body.tree
  pub release : ReleaseFileHas told body.tree (λ bytes. IsRelease bytes body.release)

-- the image of this place and this tree; or the first of these: it has no release file, or a faulty one; or that the shelf did not
-- give that file. The numbers count the faults of the shelf before and after
abbrev pub ReadsBodyOf : (HeldFile → Told) → ℕ → ℕ → List (List ℕ) → Entries HeldFile → Result Body BodyErr → Type 0
ReadsBodyOf told old new place tree (Ok body) =
    (body.place ≡ place) × (body.tree ≡ tree) × ReleaseFileHas told tree (λ bytes. IsRelease bytes body.release)
ReadsBodyOf told old new place tree (Err errors.OutOfMemory) = Unit {0}
ReadsBodyOf told old new place tree (Err errors.NoSuchImage) = ⊥
ReadsBodyOf told old new place tree (Err errors.NotPortable) = ReleaseFileAt tree None
ReadsBodyOf told old new place tree (Err (errors.BadRelease line)) = ReleaseFileHas told tree (λ bytes. IsFirstFault bytes line)
ReadsBodyOf told old new place tree (Err (errors.Shelf e)) = ReleaseFileFails told old new tree e

-- the image at the place, or that the place leads to no directory, or what is wrong with the image's release file
abbrev pub ReadsBody : (HeldFile → Told) → ℕ → ℕ → Entries HeldFile → List (List ℕ) → Result Body BodyErr → Type 0
ReadsBody told old new base place (Ok body) = IsBody told base place body
ReadsBody told old new base place (Err errors.OutOfMemory) = Unit {0}
ReadsBody told old new base place (Err errors.NoSuchImage) = ¬ LeadsToDirectory base place
ReadsBody told old new base place (Err errors.NotPortable) =
    (tree : Entries HeldFile) × IsTreeOf base place tree × ReadsBodyOf told old new place tree (Err errors.NotPortable)
ReadsBody told old new base place (Err (errors.BadRelease line)) =
    (tree : Entries HeldFile) × IsTreeOf base place tree × ReadsBodyOf told old new place tree (Err (errors.BadRelease line))
ReadsBody told old new base place (Err (errors.Shelf e)) =
    (tree : Entries HeldFile) × IsTreeOf base place tree × ReadsBodyOf told old new place tree (Err (errors.Shelf e))

-- the image, or that there is none, or what is wrong with its release file
abbrev pub ReadsImage : (HeldFile → Told) → ℕ → ℕ → Entries HeldFile → Arch → Image → Result Body BodyErr → Type 0
ReadsImage told old new base arch image (Ok body) =
    (place : List (List ℕ)) × IsImageAt base arch image place × ReadsBody told old new base place (Ok body)
ReadsImage told old new base arch image (Err errors.OutOfMemory) = Unit {0}
ReadsImage told old new base arch image (Err errors.NoSuchImage) = (place : List (List ℕ)) → ¬ IsImageAt base arch image place
ReadsImage told old new base arch image (Err errors.NotPortable) =
    (place : List (List ℕ)) × IsImageAt base arch image place × ReadsBody told old new base place (Err errors.NotPortable)
ReadsImage told old new base arch image (Err (errors.BadRelease line)) =
    (place : List (List ℕ)) × IsImageAt base arch image place × ReadsBody told old new base place (Err (errors.BadRelease line))
ReadsImage told old new base arch image (Err (errors.Shelf e)) =
    (place : List (List ℕ)) × IsImageAt base arch image place × ReadsBody told old new base place (Err (errors.Shelf e))
