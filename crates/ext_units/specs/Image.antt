-- Where the image of a portable service is, after portablectl(1). That a path is taken for its own place, and followed only to see
-- that it leads to a directory, is this project's own.
use Rattle.std.specs.Prelude.{◌≡◌, ℕ, Bool, true, false, ◌&&◌, List, [], Contains, Option, Some, None}
use Rattle.std.specs.Ordering.{eq_by_cmp}
use Rattle.ext_lines.specs.ByteOrder.{bytes_cmp}
use Rattle.ext_text.specs.declared.arch.Arch.{Arch}
use Rattle.ext_text.specs.declared.class.Class.TheVariants as classes
use Rattle.ext_tree.specs.Tree.{Entries}
use Rattle.ext_walk.specs.Leads.{LeadsToDirectory}
use Rattle.ext_host.specs.Held.{HeldFile}
use Rattle.ext_host.specs.Planning.{content_size}
use Rattle.ext_find.specs.Found.{AreFound}
use Rattle.ext_find.specs.declared.found.FoundItem.{FoundItem}
use Rattle.ext_find.specs.declared.found.FoundKind.{FoundKind}
use Rattle.ext_find.specs.declared.found.FoundKind.TheVariants as kinds
use Rattle.ext_units.specs.declared.image.Image.{Image}
use Rattle.ext_units.specs.declared.image.Image.TheVariants.{Named, At}

-- what is found at the place is an image of this name
pub record IsImageItem (name : List ℕ) (place : List (List ℕ)) (item : FoundItem) : Type 0 where
  pub name_is : item.name ≡ name
  pub place_is : item.place ≡ place
  pub image : item.kind ≡ kinds.Image

-- a search for images of portable services finds one of this name at the place
pub record FindsImage (base : Entries HeldFile) (arch : Arch) (name : List ℕ) (place : List (List ℕ)) : Type 0 where
  pub items : List FoundItem
  pub found : AreFound content_size base classes.Portable arch [] items
  pub item : FoundItem
  pub among : Contains items item
  pub is_item : IsImageItem name place item

-- the image is there: where a search finds it by its name, or at its path, which leads to a directory
abbrev pub IsImageAt : Entries HeldFile → Arch → Image → List (List ℕ) → Type 0
IsImageAt base arch (Named name) place = FindsImage base arch name place
IsImageAt base arch (At path) place = (place ≡ path) × LeadsToDirectory base path

-- where the image is, or that there is none
abbrev pub ImagePlace : Entries HeldFile → Arch → Image → Option (List (List ℕ)) → Type 0
ImagePlace base arch image None = (place : List (List ℕ)) → ¬ IsImageAt base arch image place
ImagePlace base arch image (Some place) = IsImageAt base arch image place

-- a directory image that can be used
abbrev pub is_image : FoundKind → Bool
is_image kinds.Image = true
is_image kinds.Masked = false
is_image kinds.Raw = false
is_image (kinds.Broken why) = false

-- an item that is an image of this name
abbrev pub is_image_of : List ℕ → FoundItem → Bool
is_image_of name item = eq_by_cmp bytes_cmp item.name name && is_image item.kind
