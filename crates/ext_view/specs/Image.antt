-- The release file of an image, after systemd-sysext(8).
use Rattle.std.specs.Prelude.{◌≡◌, ℕ, true, List, Option, Some, None}
use Rattle.ext_attributes.specs.Attributes.{OfFile}
use Rattle.ext_text.specs.declared.extension.Extension.{Extension}
use Rattle.ext_tree.specs.Part.{part}
use Rattle.ext_tree.specs.Tree.{Entries, lookup}
use Rattle.ext_tree.specs.declared.entry.Entry.TheVariants.{File}
use Rattle.ext_walk.specs.Walk.{Ends, parts}
use Rattle.ext_find.specs.Content.{is_file_at}
use Rattle.ext_find.specs.ExtensionRelease.{release_text}
use Rattle.ext_find.specs.HostRelease.{LeadsToContent}
use Rattle.ext_find.specs.Image.{LeadsToFileAt}

-- the place leads to an image whose release file has this content
pub record HasReleaseFile {C : Type 0} (es : Entries C) (class : Extension) (place : List (List ℕ)) (name : List ℕ)
    (content : C) : Type 0 where
  pub image : List (List ℕ)
  pub leads : Ends es place image
  pub file : LeadsToContent (part image es) (parts (release_text class name)) content

-- the place leads to an image whose release file has this path in the tree
pub record IsReleaseAt {C : Type 0} (es : Entries C) (class : Extension) (place : List (List ℕ)) (name : List ℕ)
    (path : List (List ℕ)) : Type 0 where
  pub image : List (List ℕ)
  pub leads : Ends es place image
  pub file : LeadsToFileAt es image (parts (release_text class name)) path

-- the same, of a path that is there
abbrev pub HasReleaseAt : {C : Type 0} → Entries C → Extension → List (List ℕ) → List ℕ → Option (List (List ℕ)) → Type 0
HasReleaseAt es class place name None = ⊥
HasReleaseAt es class place name (Some path) = IsReleaseAt es class place name path

-- a file is there
abbrev pub IsFileThere : {C : Type 0} → Entries C → Option (List (List ℕ)) → Type 0
IsFileThere es None = ⊥
IsFileThere es (Some path) = is_file_at (lookup es path) ≡ true

-- a file of this content is there
abbrev pub IsContentThere : {C : Type 0} → Entries C → Option (List (List ℕ)) → C → Type 0
IsContentThere es None content = ⊥
IsContentThere es (Some path) content = (attributes : OfFile) × (lookup es path ≡ Some (File attributes content))
