-- Where an extension of a portable service is, after portablectl(1), option --extension=: a system extension of the host by its
-- name, or the directory to which a path leads. That a path is taken for its own place, and that its image is broken as one that
-- was found is, is this project's own.
use Rattle.std.specs.Prelude.{◌≡◌, ℕ, Bool, true, false, ◌&&◌, List, Contains, IsTrue, Option, Some, None}
use Rattle.std.specs.Ordering.{eq_by_cmp}
use Rattle.ext_lines.specs.ByteOrder.{bytes_cmp}
use Rattle.ext_text.specs.declared.class.Class.TheVariants as classes
use Rattle.ext_text.specs.declared.extension.Extension.TheVariants as extensions
use Rattle.ext_tree.specs.Part.{part}
use Rattle.ext_tree.specs.Tree.{Entries, is_directory_or_root}
use Rattle.ext_walk.specs.Walk.{Ends}
use Rattle.ext_host.specs.Held.{HeldFile}
use Rattle.ext_host.specs.Host.{hierarchies_in, hierarchies_of}
use Rattle.ext_host.specs.Planning.{content_size}
use Rattle.ext_host.specs.declared.host.Host.{Host}
use Rattle.ext_find.specs.Found.{AreFound}
use Rattle.ext_find.specs.Image.{Breaks}
use Rattle.ext_find.specs.declared.found.BreakWhy.{BreakWhy}
use Rattle.ext_find.specs.declared.found.FoundItem.{FoundItem}
use Rattle.ext_find.specs.declared.found.FoundKind.{FoundKind}
use Rattle.ext_find.specs.declared.found.FoundKind.TheVariants as kinds
use Rattle.ext_units.specs.ImageName.{last_name}
use Rattle.ext_units.specs.declared.image.Image.{Image}
use Rattle.ext_units.specs.declared.image.Image.TheVariants.{Named, At}

-- the hierarchies of system extensions
abbrev pub system_hierarchies : Host → List (List ℕ)
system_hierarchies host = hierarchies_of extensions.Sysext (hierarchies_in host)

-- an image that is broken so, or one that can be used
abbrev pub kind_of_break : Option BreakWhy → FoundKind
kind_of_break None = kinds.Image
kind_of_break (Some why) = kinds.Broken why

-- a search for system extensions finds an image of this name at the place
pub record FindsExtension (host : Host) (base : Entries HeldFile) (name : List ℕ) (place : List (List ℕ))
    (why : Option BreakWhy) : Type 0 where
  pub items : List FoundItem
  pub found : AreFound content_size base classes.Sysext host.arch (system_hierarchies host) items
  pub item : FoundItem
  pub among : Contains items item
  pub name_is : item.name ≡ name
  pub place_is : item.place ≡ place
  pub kind_is : item.kind ≡ kind_of_break why

-- the path leads to a directory, and what is below that is an image of the path's last name
pub record IsExtensionPath (host : Host) (base : Entries HeldFile) (path : List (List ℕ)) (why : Option BreakWhy) : Type 0 where
  pub directory : List (List ℕ)
  pub leads : Ends base path directory
  pub open_ : IsTrue (is_directory_or_root base directory)
  pub breaks : Breaks (part directory base) classes.Sysext (system_hierarchies host) (last_name path) why

-- the extension is at the place, and broken so, or it can be used
abbrev pub IsExtensionAt : Host → Entries HeldFile → Image → List (List ℕ) → Option BreakWhy → Type 0
IsExtensionAt host base (Named name) place why = FindsExtension host base name place why
IsExtensionAt host base (At path) place why = (place ≡ path) × IsExtensionPath host base path why

-- there is no such extension
abbrev pub IsNoExtension : Host → Entries HeldFile → Image → Type 0
IsNoExtension host base image = (place : List (List ℕ)) (why : Option BreakWhy) → ¬ IsExtensionAt host base image place why

-- an image in a directory
abbrev pub is_looked_into : FoundKind → Bool
is_looked_into kinds.Image = true
is_looked_into (kinds.Broken why) = true
is_looked_into kinds.Masked = false
is_looked_into kinds.Raw = false

-- an item that is an extension of this name
abbrev pub is_extension_of : List ℕ → FoundItem → Bool
is_extension_of name item = eq_by_cmp bytes_cmp item.name name && is_looked_into item.kind
