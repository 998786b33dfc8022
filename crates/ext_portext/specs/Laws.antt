-- The laws of attaching with extensions.
use Rattle.std.specs.Prelude.{◌≡◌, ℕ, Bool, List, [], Result, Ok, Err}
use Rattle.ext_tree.specs.Tree.{Entries}
use Rattle.ext_host.specs.Held.{HeldFile}
use Rattle.ext_host.specs.Shelf.{Told}
use Rattle.ext_host.specs.declared.host.Host.{Host}
use Rattle.ext_host.specs.declared.shelf.ShelfErr.{ShelfErr}
use Rattle.ext_units.specs.Laws.{GivesOneText}
use Rattle.ext_units.specs.declared.image.Image.{Image}
use Rattle.ext_added.specs.declared.ask.Ask.{Ask}
use Rattle.ext_port.specs.Files.{AreAlike, FileFails}
use Rattle.ext_port.specs.Laws.{IsOfAttach}
use Rattle.ext_port.specs.Wants.{Attaches}
use Rattle.ext_port.specs.declared.attaching.Attach.{Attach}
use Rattle.ext_port.specs.declared.errors.PortErr.TheVariants as port_errors
use Rattle.ext_portext.specs.Files.{IsExtendedFile}
use Rattle.ext_portext.specs.UnitTree.{IsUnitTree}
use Rattle.ext_portext.specs.Wants.{AttachesExtended}
use Rattle.ext_portext.specs.declared.errors.PortExtErr.{PortExtErr}
use Rattle.ext_portext.specs.declared.errors.PortExtErr.TheVariants as errors
use Rattle.ext_portext.specs.declared.extending.Extending.{Extending}

-- what is attached with no extensions is what attaching gives
abbrev pub WithoutExtensionsIsAttach : Type 0
WithoutExtensionsIsAttach =
    (told : HeldFile → Told) (old new : ℕ) (again : Bool) (host : Host) (ask : Ask) (attach : Attach)
    → AttachesExtended told old new again host ask [] (Ok attach)
    → Attaches told old new again host ask (Ok attach)

-- an image and extensions have one tree of units
abbrev pub OneUnitTree : Type 0
OneUnitTree =
    (hierarchies : List (List ℕ)) (image : Entries HeldFile) (extensions : List Extending) (tree other : Entries HeldFile)
    → IsUnitTree hierarchies image extensions tree
    → IsUnitTree hierarchies image extensions other
    → tree ≡ other

-- what is attached, or why it is not: neither want of memory nor an error of the shelf
abbrev pub IsOfExtended : Result Attach PortExtErr → Type 0
IsOfExtended (Err errors.OutOfMemory) = ⊥
IsOfExtended (Err (errors.Port e)) = IsOfAttach (Err e)
IsOfExtended _ = Unit {0}

-- one thing comes of attaching with extensions
abbrev pub OneExtendedAttach : Type 0
OneExtendedAttach =
    (told : HeldFile → Told) (old new other_old other_new : ℕ) (again : Bool) (host : Host) (ask : Ask) (images : List Image)
    (a b : Result Attach PortExtErr)
    → GivesOneText told
    → IsOfExtended a
    → IsOfExtended b
    → AttachesExtended told old new again host ask images a
    → AttachesExtended told other_old other_new again host ask images b
    → a ≡ b

-- what comes of it is no error of the shelf
abbrev pub IsUncountedExtended : Result Attach PortExtErr → Type 0
IsUncountedExtended (Err (errors.Port (port_errors.Shelf e))) = ⊥
IsUncountedExtended _ = Unit {0}

-- what comes of it rests on what is told of the files of the host, and on nothing else that is told
abbrev pub ExtendedAlike : Type 0
ExtendedAlike =
    (told other : HeldFile → Told) (old new : ℕ) (again : Bool) (host : Host) (ask : Ask) (images : List Image)
    (result : Result Attach PortExtErr)
    → AreAlike host told other
    → AttachesExtended told old new again host ask images result
    → AttachesExtended other old new again host ask images result

-- where it tells an error of the shelf, that did not give the release file of the image or of an extension, a file of the host
abbrev pub ExtendedNotGiven : Type 0
ExtendedNotGiven =
    (told : HeldFile → Told) (old new : ℕ) (again : Bool) (host : Host) (ask : Ask) (images : List Image) (e : ShelfErr)
    → AttachesExtended told old new again host ask images (Err (errors.Port (port_errors.Shelf e)))
    → FileFails (IsExtendedFile again host ask images) host told old new e

-- the faults that are counted matter for errors of the shelf alone
abbrev pub ExtendedUncounted : Type 0
ExtendedUncounted =
    (told : HeldFile → Told) (old new other_old other_new : ℕ) (again : Bool) (host : Host) (ask : Ask) (images : List Image)
    (result : Result Attach PortExtErr)
    → IsUncountedExtended result
    → AttachesExtended told old new again host ask images result
    → AttachesExtended told other_old other_new again host ask images result
