-- The laws of attaching.
use Rattle.std.specs.Prelude.{◌≡◌, ℕ, Bool, true, false, not, ◌&&◌, if◌then◌else◌, List, Option, Result, Ok, Err}
use Rattle.std.specs.List.{list_any}
use Rattle.ext_text.specs.Path.{is_proper_prefix}
use Rattle.ext_text.specs.SortedPaths.{covers}
use Rattle.ext_text.specs.declared.arch.Arch.{Arch}
use Rattle.ext_tree.specs.Graft.{or_made}
use Rattle.ext_tree.specs.Refusals.{is_root}
use Rattle.ext_tree.specs.Tree.{Entries, IsTree, lookup}
use Rattle.ext_tree.specs.declared.entry.Entry.{Entry}
use Rattle.ext_host.specs.Held.{HeldFile}
use Rattle.ext_host.specs.Planning.{IsBaseTree}
use Rattle.ext_host.specs.Shelf.{Told}
use Rattle.ext_host.specs.declared.host.Host.{Host}
use Rattle.ext_host.specs.declared.shelf.ShelfErr.{ShelfErr}
use Rattle.ext_units.specs.ImageName.{image_name}
use Rattle.ext_units.specs.Inspecting.{Inspects}
use Rattle.ext_units.specs.Laws.{GivesOneText}
use Rattle.ext_units.specs.declared.errors.InspectErr.{InspectErr}
use Rattle.ext_units.specs.declared.errors.InspectErr.TheVariants as inspect_errors
use Rattle.ext_units.specs.declared.image.Image.{Image}
use Rattle.ext_units.specs.declared.inspected.Inspect.{Inspect}
use Rattle.ext_attached.specs.Detaching.{Detaches}
use Rattle.ext_attached.specs.Going.{cut_paths, detached, without}
use Rattle.ext_attached.specs.declared.going.By.TheVariants.{Name}
use Rattle.ext_added.specs.declared.ask.Ask.{Ask}
use Rattle.ext_port.specs.Files.{AreAlike, FileFails, IsAttachFile, IsInspectFile}
use Rattle.ext_port.specs.Starting.{start_host}
use Rattle.ext_port.specs.Wants.{Attaches}
use Rattle.ext_port.specs.declared.attaching.Attach.{Attach}
use Rattle.ext_port.specs.declared.errors.PortErr.{PortErr}
use Rattle.ext_port.specs.declared.errors.PortErr.TheVariants as errors

-- the path lies above one of the paths, neither at nor below one, and is not the root
abbrev pub is_way : List (List (List ℕ)) → List (List ℕ) → Bool
is_way paths q = not (is_root q) && (not (covers paths q) && list_any (λ p. is_proper_prefix q p) paths)

-- what stands at a path, and at a way to one of the paths a made directory where nothing did
abbrev pub with_ways : List (List (List ℕ)) → Entries HeldFile → List (List ℕ) → Option (Entry HeldFile)
with_ways paths root q = if is_way paths q then or_made (lookup root q) else lookup root q

-- the paths that the image of an ask added
abbrev pub added_of : Ask → Host → List (List (List ℕ))
added_of ask host = cut_paths Name (image_name ask.image) host

-- outside of what was added, and below none of it, stands what stood, the ways to it aside
abbrev pub AddedAtTops : Type 0
AddedAtTops =
    (told : HeldFile → Told) (old new : ℕ) (again : Bool) (host : Host) (ask : Ask) (attach : Attach)
    → Attaches told old new again host ask (Ok attach)
    → (q : List (List ℕ)) → covers (added_of ask attach.plan.next) q ≡ false
    → lookup attach.plan.next.root q ≡ with_ways (added_of ask attach.plan.next) (start_host again ask.image host).root q

-- what was attached can be detached, and then stands what stood, the ways to it aside
abbrev pub DetachUndoesAttach : Type 0
DetachUndoesAttach =
    (told : HeldFile → Told) (old new : ℕ) (again : Bool) (host : Host) (ask : Ask) (attach : Attach)
    → IsTree (start_host again ask.image host).root
    → Attaches told old new again host ask (Ok attach)
    → Detaches attach.plan.next (image_name ask.image) (Ok (record { next = detached Name (image_name ask.image) attach.plan.next }))
    × ((q : List (List ℕ)) → lookup (detached Name (image_name ask.image) attach.plan.next).root q
    ≡ with_ways (added_of ask attach.plan.next) (start_host again ask.image host).root q)

-- what attaching anew gives is what attaching gives of the host without the attachments that go
abbrev pub ReattachIsAttach : Type 0
ReattachIsAttach =
    (told : HeldFile → Told) (old new : ℕ) (host : Host) (ask : Ask) (attach : Attach)
    → Attaches told old new true host ask (Ok attach)
    → Attaches told old new false (without ask.image host) ask (Ok attach)

-- what is attached, or why it is not: neither want of memory nor an error of the shelf
abbrev pub IsOfAttach : Result Attach PortErr → Type 0
IsOfAttach (Err errors.OutOfMemory) = ⊥
IsOfAttach (Err (errors.Shelf e)) = ⊥
IsOfAttach _ = Unit {0}

-- one thing comes of attaching, or of attaching anew
abbrev pub OneAttach : Type 0
OneAttach =
    (told : HeldFile → Told) (old new other_old other_new : ℕ) (again : Bool) (host : Host) (ask : Ask) (a b : Result Attach PortErr)
    → GivesOneText told
    → IsOfAttach a
    → IsOfAttach b
    → Attaches told old new again host ask a
    → Attaches told other_old other_new again host ask b
    → a ≡ b

-- what comes of attaching is no error of the shelf
abbrev pub IsUncounted : Result Attach PortErr → Type 0
IsUncounted (Err (errors.Shelf e)) = ⊥
IsUncounted _ = Unit {0}

-- what inspecting tells is none
abbrev pub IsUncountedInspect : Result Inspect InspectErr → Type 0
IsUncountedInspect (Err (inspect_errors.Shelf e)) = ⊥
IsUncountedInspect _ = Unit {0}

-- what comes of attaching rests on what is told of the files of the host, and on nothing else that is told
abbrev pub AttachesAlike : Type 0
AttachesAlike =
    (told other : HeldFile → Told) (old new : ℕ) (again : Bool) (host : Host) (ask : Ask) (result : Result Attach PortErr)
    → AreAlike host told other
    → Attaches told old new again host ask result
    → Attaches other old new again host ask result

-- and so does what inspecting tells
abbrev pub InspectsAlike : Type 0
InspectsAlike =
    (told other : HeldFile → Told) (old new : ℕ) (host : Host) (base : Entries HeldFile) (image : Image) (given : List (List ℕ))
    (result : Result Inspect InspectErr)
    → AreAlike host told other
    → IsBaseTree host base
    → Inspects told old new base host.arch image given result
    → Inspects other old new base host.arch image given result

-- where attaching tells an error of the shelf, that did not give the release file of the image, which is a file of the host
abbrev pub AttachNotGiven : Type 0
AttachNotGiven =
    (told : HeldFile → Told) (old new : ℕ) (again : Bool) (host : Host) (ask : Ask) (e : ShelfErr)
    → Attaches told old new again host ask (Err (errors.Shelf e))
    → FileFails (IsAttachFile again host ask) host told old new e

-- the same of inspecting
abbrev pub InspectNotGiven : Type 0
InspectNotGiven =
    (told : HeldFile → Told) (old new : ℕ) (host : Host) (base : Entries HeldFile) (image : Image) (given : List (List ℕ))
    (e : ShelfErr)
    → IsBaseTree host base
    → Inspects told old new base host.arch image given (Err (inspect_errors.Shelf e))
    → FileFails (IsInspectFile host image) host told old new e

-- the faults that are counted matter for errors of the shelf alone
abbrev pub AttachUncounted : Type 0
AttachUncounted =
    (told : HeldFile → Told) (old new other_old other_new : ℕ) (again : Bool) (host : Host) (ask : Ask) (result : Result Attach PortErr)
    → IsUncounted result
    → Attaches told old new again host ask result
    → Attaches told other_old other_new again host ask result

-- the same of inspecting
abbrev pub InspectUncounted : Type 0
InspectUncounted =
    (told : HeldFile → Told) (old new other_old other_new : ℕ) (base : Entries HeldFile) (arch : Arch) (image : Image)
    (given : List (List ℕ)) (result : Result Inspect InspectErr)
    → IsUncountedInspect result
    → Inspects told old new base arch image given result
    → Inspects told other_old other_new base arch image given result
