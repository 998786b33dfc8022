-- What the code says of extensions, one after the other.
use Rattle.std.specs.Prelude.{◌≡◌, ℕ, ◌<◌, ◌≤◌, List, length, Option, Some, None, Result, Ok, Err}
use Rattle.std.specs.FinMap.{FinMap}
use Rattle.ext_lines.specs.ByteOrder.{bytes_cmp}
use Rattle.ext_text.specs.declared.arch.Arch.{Arch}
use Rattle.ext_text.specs.declared.which.Which.TheVariants as limits
use Rattle.ext_tree.specs.Tree.{Entries, most_entries}
use Rattle.ext_host.specs.Held.{HeldFile}
use Rattle.ext_host.specs.Shelf.{Told}
use Rattle.ext_host.specs.declared.host.Host.{Host}
use Rattle.ext_find.specs.declared.found.BreakWhy.{BreakWhy}
use Rattle.ext_units.specs.declared.image.Image.{Image}
use Rattle.ext_port.specs.declared.errors.PortErr.TheVariants as port_errors
use Rattle.ext_portext.specs.Extension.{IsExtensionAt, IsNoExtension}
use Rattle.ext_portext.specs.Extensions.{AreExtending, ExtensionFails, FirstFails, IsExtending}
use Rattle.ext_portext.specs.Judged.{ExtensionFileFails, FitsByFile}
use Rattle.ext_portext.specs.UnitTree.{IsUnitTree}
use Rattle.ext_portext.specs.declared.errors.ExtWhy.{ExtWhy}
use Rattle.ext_portext.specs.declared.errors.ExtWhy.TheVariants as whys
use Rattle.ext_portext.specs.declared.errors.PortExtErr.{PortExtErr}
use Rattle.ext_portext.specs.declared.errors.PortExtErr.TheVariants as errors
use Rattle.ext_portext.specs.declared.extending.Extending.{Extending}
use Rattle.ext_portext.specs.declared.extension.Placed.{Placed}

-- where the extension is, or that there is none
abbrev pub ExtensionPlace : Host → Entries HeldFile → Image → Option Placed → Type 0
ExtensionPlace host base image None = IsNoExtension host base image
ExtensionPlace host base image (Some placed) = IsExtensionAt host base image placed.place placed.broken

-- what the release file of an extension that can be used says, or that the shelf failed
abbrev pub SaysOfFile : FinMap bytes_cmp (List ℕ) → Arch → (HeldFile → Told) → ℕ → ℕ → Entries HeldFile → List ℕ
    → Result (Option ExtWhy) PortExtErr → Type 0
SaysOfFile release arch told old new tree name (Ok why) = FitsByFile release arch told tree name why
SaysOfFile release arch told old new tree name (Err errors.OutOfMemory) = Unit {0}
SaysOfFile release arch told old new tree name (Err (errors.Port (port_errors.Shelf e))) = ExtensionFileFails told old new tree name e
SaysOfFile release arch told old new tree name (Err e) = ⊥

-- the same of an extension, which may be broken
abbrev pub SaysOfExtension : FinMap bytes_cmp (List ℕ) → Arch → (HeldFile → Told) → ℕ → ℕ → Entries HeldFile → List ℕ → Option BreakWhy
    → Result (Option ExtWhy) PortExtErr → Type 0
SaysOfExtension release arch told old new tree name None result = SaysOfFile release arch told old new tree name result
SaysOfExtension release arch told old new tree name (Some broken) result = result ≡ Ok (Some (whys.Broken broken))

-- the extension at this place in the list, by what is said of it
abbrev pub extending_of : ℕ → List (List ℕ) → Entries HeldFile → Result (Option ExtWhy) PortExtErr → Result Extending PortExtErr
extending_of at place tree (Ok None) = Ok (record { place = place; tree = tree })
extending_of at place tree (Ok (Some why)) = Err (errors.Extension at why)
extending_of at place tree (Err e) = Err e

module _ (told : HeldFile → Told) (host : Host) (base : Entries HeldFile) (release : FinMap bytes_cmp (List ℕ)) (old new : ℕ) where
  -- the extension at this place in the list, or what is wrong with it
  abbrev pub ReadsExtension : ℕ → Image → Result Extending PortExtErr → Type 0
  ReadsExtension at image (Ok extending) = IsExtending told host base release image extending None
  ReadsExtension at image (Err errors.OutOfMemory) = Unit {0}
  ReadsExtension at image (Err e) = ExtensionFails told host base release old new at image e

  -- all of them, or what is wrong with the first that doesn't fit
  abbrev pub ReadsExtensions : List Image → Result (List Extending) PortExtErr → Type 0
  ReadsExtensions images (Ok extensions) = AreExtending told host base release images extensions
  ReadsExtensions images (Err errors.OutOfMemory) = Unit {0}
  ReadsExtensions images (Err e) = FirstFails told host base release old new images e

-- the tree of the units, or that it has too many entries
abbrev pub GivesUnitTree : List (List ℕ) → Entries HeldFile → List Extending → Result (Entries HeldFile) PortExtErr → Type 0
GivesUnitTree hierarchies image extensions (Ok tree) = IsUnitTree hierarchies image extensions tree × (length tree ≤ most_entries)
GivesUnitTree hierarchies image extensions (Err errors.OutOfMemory) = Unit {0}
GivesUnitTree hierarchies image extensions (Err (errors.Limit which)) =
    (which ≡ limits.Entries) × ((tree : Entries HeldFile) × IsUnitTree hierarchies image extensions tree × (most_entries < length tree))
GivesUnitTree hierarchies image extensions (Err e) = ⊥

-- a tree that is within its limit, or that it has too many entries
abbrev pub FitsTree : Entries HeldFile → Result (Entries HeldFile) PortExtErr → Type 0
FitsTree tree (Ok same) = (same ≡ tree) × (length tree ≤ most_entries)
FitsTree tree (Err errors.OutOfMemory) = Unit {0}
FitsTree tree (Err (errors.Limit which)) = (which ≡ limits.Entries) × (most_entries < length tree)
FitsTree tree (Err e) = ⊥
