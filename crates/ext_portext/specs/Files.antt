-- What attaching with extensions reads of a host: the release file of the image, and those of the extensions, in the base of the host
-- from which the image is attached. This project's own.
use Rattle.std.specs.Prelude.{◌⊎◌, ℕ, Bool, List, Contains, None}
use Rattle.ext_tree.specs.Tree.{Entries}
use Rattle.ext_host.specs.Held.{HeldFile}
use Rattle.ext_host.specs.Planning.{IsBaseTree}
use Rattle.ext_host.specs.declared.host.Host.{Host}
use Rattle.ext_units.specs.Body.{IsTreeOf}
use Rattle.ext_units.specs.ImageName.{image_name}
use Rattle.ext_units.specs.declared.image.Image.{Image}
use Rattle.ext_added.specs.declared.ask.Ask.{Ask}
use Rattle.ext_port.specs.Files.{IsImageFile}
use Rattle.ext_port.specs.Starting.{start_host}
use Rattle.ext_portext.specs.Extension.{IsExtensionAt}
use Rattle.ext_portext.specs.Judged.{IsExtensionFile}

-- the release file of an extension that can be used, in this base
pub record IsReleaseOfExtension (host : Host) (base : Entries HeldFile) (image : Image) (held : HeldFile) : Type 0 where
  pub place : List (List ℕ)
  pub at_place : IsExtensionAt host base image place None
  pub tree : Entries HeldFile
  pub is_tree : IsTreeOf base place tree
  pub is_file : IsExtensionFile tree (image_name image) held

-- a file that is read where the image is attached, or attached anew: that of the image, or that of an extension
abbrev pub IsExtendedFile : Bool → Host → Ask → List Image → HeldFile → Type 0
IsExtendedFile again host ask images held =
    (base : Entries HeldFile) × IsBaseTree (start_host again ask.image host) base
    × (IsImageFile base host.arch ask.image held
    ⊎ ((image : Image) × Contains images image × IsReleaseOfExtension (start_host again ask.image host) base image held))
