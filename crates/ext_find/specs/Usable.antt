-- What the code finds out of one entry, step by step.
use Rattle.std.specs.Prelude.{◌≡◌, ℕ, Bool, true, false, List, [], ◌∷◌, ◌++◌, IsTrue, Option, Some, None}
use Rattle.ext_text.specs.Name.{IsName}
use Rattle.ext_text.specs.Path.{IsPath}
use Rattle.ext_text.specs.declared.arch.Arch.{Arch}
use Rattle.ext_text.specs.declared.class.Class.{Class}
use Rattle.ext_tree.specs.Tree.{Entries, is_directory_or_root}
use Rattle.ext_walk.specs.Leads.{LeadsToDirectory}
use Rattle.ext_walk.specs.Walk.{Ends}
use Rattle.ext_find.specs.Ending.{stem_of}
use Rattle.ext_find.specs.Found.{Gives, IsImage, IsPlace, IsReleaseOf, IsUsableIn}
use Rattle.ext_find.specs.Image.{ChecksAs}
use Rattle.ext_find.specs.declared.ending.Ending.TheVariants.{DotV}
use Rattle.ext_find.specs.declared.found.FoundItem.{FoundItem}
use Rattle.ext_find.specs.declared.found.FoundKind.{FoundKind}
use Rattle.ext_find.specs.declared.found.FoundKind.TheVariants.{Image, Masked, Raw, Broken}
use Rattle.ext_find.specs.declared.found_image.FoundImage.{FoundImage}
use Rattle.ext_find.specs.declared.image.ImageCheck.{ImageCheck}
use Rattle.ext_find.specs.declared.image.ImageCheck.TheVariants as checks

-- the name below the path, or that it is past the limits
abbrev pub IsBelow : List (List ℕ) → List ℕ → Option (List (List ℕ)) → Type 0
IsBelow path name None = ¬ IsPath (path ++ name ∷ [])
IsBelow path name (Some place) = IsPath place × (place ≡ path ++ name ∷ [])

-- the stem of a name, or that it is no name
abbrev pub IsStem : List ℕ → Option (List ℕ) → Type 0
IsStem name None = ¬ IsName (stem_of name)
IsStem name (Some stem) = IsName stem × (stem ≡ stem_of name)

-- a mask
abbrev pub IsMaskAt : List (List ℕ) → Option FoundImage → Type 0
IsMaskAt path None = ⊥
IsMaskAt path (Some found_image) = (found_image.place ≡ path) × (found_image.kind ≡ Masked) × (found_image.release ≡ None) × IsPath path

-- an image in a file, where the path leads to one
abbrev pub IsRawAt : List (List ℕ) → Bool → Option FoundImage → Type 0
IsRawAt path leads None = leads ≡ false
IsRawAt path leads (Some found_image) =
    (leads ≡ true) × (found_image.place ≡ path) × (found_image.kind ≡ Raw) × (found_image.release ≡ None) × IsPath path

-- the item of this name
abbrev pub item_with : List ℕ → FoundImage → FoundItem
item_with stem found_image = record { name = stem; place = found_image.place; kind = found_image.kind; release = found_image.release }

-- what is found at the place, by what a look into the image says
abbrev pub found_image_of : List (List ℕ) → ImageCheck → FoundImage
found_image_of place (checks.Usable release) = record { place = place; kind = Image; release = release }
found_image_of place (checks.Broken why) = record { place = place; kind = Broken why; release = None }

module _ {C : Type 0} (size : C → ℕ) (es : Entries C) (class : Class) (arch : Arch) (hierarchies : List (List ℕ)) where
  -- the image at the place is of this kind
  abbrev pub IsKind : List (List ℕ) → List ℕ → FoundKind → Type 0
  IsKind place stem Image = IsImage size es class arch hierarchies place stem None
  IsKind place stem Masked = ⊥
  IsKind place stem Raw = ⊥
  IsKind place stem (Broken why) = IsImage size es class arch hierarchies place stem (Some why)

  -- what a look into the image at the place says
  abbrev pub IsCheck : List (List ℕ) → List ℕ → ImageCheck → Type 0
  IsCheck place stem check =
      (end : List (List ℕ)) × Ends es place end × IsTrue (is_directory_or_root es end) × ChecksAs es end class hierarchies stem check

  -- the same, or that there is no image
  abbrev pub CheckAt : List (List ℕ) → List ℕ → Option ImageCheck → Type 0
  CheckAt place stem None = ¬ LeadsToDirectory es place
  CheckAt place stem (Some check) = IsCheck place stem check

  -- what is found at its place, with its release file
  abbrev pub IsSeen : List ℕ → FoundImage → Type 0
  IsSeen stem found_image =
      IsKind found_image.place stem found_image.kind
      × IsReleaseOf size es class arch hierarchies found_image.place stem found_image.kind found_image.release

  -- the image at the place, or that there is none
  abbrev pub ImageAt : List (List ℕ) → List ℕ → Option FoundImage → Type 0
  ImageAt place stem None = ¬ LeadsToDirectory es place
  ImageAt place stem (Some found_image) = (found_image.place ≡ place) × IsPath place × IsSeen stem found_image

  -- the image that is picked below the path, or that there is none
  abbrev pub PickedAt : List (List ℕ) → List ℕ → Option FoundImage → Type 0
  PickedAt path stem None =
      (place : List (List ℕ)) → IsPath place → IsPlace size es class arch hierarchies path stem DotV place → ¬ LeadsToDirectory es place
  PickedAt path stem (Some found_image) =
      IsPlace size es class arch hierarchies path stem DotV found_image.place × IsPath found_image.place × IsSeen stem found_image

  -- what the entry of this name at the path gives, or that it gives nothing
  abbrev pub FoundImageAt : List (List ℕ) → List ℕ → Option FoundImage → Type 0
  FoundImageAt path name None =
      (place : List (List ℕ)) (kind : FoundKind) → IsPath place → ¬ Gives size es class arch hierarchies path name place kind
  FoundImageAt path name (Some found_image) =
      Gives size es class arch hierarchies path name found_image.place found_image.kind × IsPath found_image.place
      × IsReleaseOf size es class arch hierarchies found_image.place (stem_of name) found_image.kind found_image.release

  -- the item that the entry of the directory gives, or that it gives none
  abbrev pub UsableAt : List (List ℕ) → List ℕ → Option FoundItem → Type 0
  UsableAt directory name None = (item : FoundItem) → ¬ IsUsableIn size es class arch hierarchies directory name item
  UsableAt directory name (Some item) = IsUsableIn size es class arch hierarchies directory name item
