-- What attaching and inspecting read of a host: the release file of the image, in the base of the host. This project's own.
use Rattle.std.specs.Prelude.{◌≡◌, ℕ, Bool, List, None}
use Rattle.ext_text.specs.declared.arch.Arch.{Arch}
use Rattle.ext_tree.specs.Tree.{Entries}
use Rattle.ext_host.specs.Drawn.{IsFileOf, trees_of}
use Rattle.ext_host.specs.Held.{HeldFile}
use Rattle.ext_host.specs.Planning.{IsBaseTree}
use Rattle.ext_host.specs.Shelf.{Told}
use Rattle.ext_host.specs.declared.host.Host.{Host}
use Rattle.ext_host.specs.declared.shelf.ShelfErr.{ShelfErr}
use Rattle.ext_find.specs.HostRelease.{IsReleaseFile, ShelfFault}
use Rattle.ext_units.specs.Body.{IsTreeOf}
use Rattle.ext_units.specs.Image.{IsImageAt}
use Rattle.ext_units.specs.declared.image.Image.{Image}
use Rattle.ext_added.specs.declared.ask.Ask.{Ask}
use Rattle.ext_port.specs.Starting.{start_host, unfit}

-- of each file of the host both shelves tell one thing
abbrev pub AreAlike : Host → (HeldFile → Told) → (HeldFile → Told) → Type 0
AreAlike host told other = (held : HeldFile) → IsFileOf (trees_of host) held → told held ≡ other held

-- the release file of the image, in this base
pub record IsImageFile (base : Entries HeldFile) (arch : Arch) (image : Image) (held : HeldFile) : Type 0 where
  pub place : List (List ℕ)
  pub at_place : IsImageAt base arch image place
  pub tree : Entries HeldFile
  pub is_tree : IsTreeOf base place tree
  pub is_file : IsReleaseFile tree held

-- the file that is read where the image is inspected
abbrev pub IsInspectFile : Host → Image → HeldFile → Type 0
IsInspectFile host image held = (base : Entries HeldFile) × IsBaseTree host base × IsImageFile base host.arch image held

-- the file that is read where it is attached, or attached anew: that of the host from which it is attached, where it may be
abbrev pub IsAttachFile : Bool → Host → Ask → HeldFile → Type 0
IsAttachFile again host ask held =
    (unfit again host ask.image ≡ None)
    × ((base : Entries HeldFile) × IsBaseTree (start_host again ask.image host) base × IsImageFile base host.arch ask.image held)

-- the shelf did not give a file of the host that is read, for the cause that it has; the numbers count its faults before and after
pub record FileFails (IsFile : HeldFile → Type 0) (host : Host) (told : HeldFile → Told) (old new : ℕ) (e : ShelfErr) : Type 0 where
  pub held : HeldFile
  pub is_read : IsFile held
  pub file : IsFileOf (trees_of host) held
  pub cause : ShelfFault old new (told held) held e
