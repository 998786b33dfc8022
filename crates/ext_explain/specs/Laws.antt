-- The laws of changes and explanations of a view.
use Rattle.std.specs.Prelude.{◌≡◌, ℕ, Bool, false, List, [], ◌∷◌, IsTrue, Option, Some, None}
use Rattle.ext_text.specs.declared.extension.Extension.{Extension}
use Rattle.ext_tree.specs.Tree.{Entries, lookup}
use Rattle.ext_tree.specs.declared.entry.Entry.{Entry}
use Rattle.ext_tree.specs.declared.entry.Entry.TheVariants.{Dir, Opaque, File, Link, Hide}
use Rattle.ext_tree.specs.declared.stamp.Stamp.{Stamp}
use Rattle.ext_host.specs.Held.{HeldFile}
use Rattle.ext_host.specs.Host.{hierarchies_in, is_in, merged_hierarchies, present}
use Rattle.ext_host.specs.Planning.{IsBaseTree}
use Rattle.ext_host.specs.Shelf.{Told}
use Rattle.ext_host.specs.Stamped.{stamped_entry}
use Rattle.ext_host.specs.Valid.{IsValidHost}
use Rattle.ext_host.specs.declared.host.Host.{Host}
use Rattle.ext_changes.specs.Changes.{Changes}
use Rattle.ext_view.specs.Hierarchies.{hierarchies_at}
use Rattle.ext_view.specs.Laws.{TellsAll, host_after}
use Rattle.ext_view.specs.Merging.{IsRefreshed}
use Rattle.ext_view.specs.declared.outcome.Merge.{Merge}
use Rattle.ext_origin.specs.declared.origin.Finding.{Finding}
use Rattle.ext_origin.specs.declared.origin.Finding.TheVariants.{Has, Covers}
use Rattle.ext_origin.specs.declared.origin.Origin.{Origin}
use Rattle.ext_explain.specs.Explaining.{AreOrigins}
use Rattle.ext_explain.specs.ViewChanges.{AreViewChanges}

-- an entry of a tree as it shows, a file with its stamp alone; a whiteout shows nothing
abbrev pub shown_entry : Entry Stamp → Option (Entry Stamp)
shown_entry (Dir attributes) = Some (Dir attributes)
shown_entry (Opaque attributes) = Some (Dir attributes)
shown_entry (File attributes stamp) = Some (File attributes stamp)
shown_entry (Link owner target) = Some (Link owner target)
shown_entry Hide = None

-- what shows where this stands, if something does
abbrev pub shown_where : Option (Entry HeldFile) → Option (Entry Stamp)
shown_where None = None
shown_where (Some e) = shown_entry (stamped_entry e)

-- what shows where a layer has this: its entry; nothing where it is a whiteout, or hides what is there
abbrev pub shown_by : Finding → Option (Entry Stamp)
shown_by (Has e) = shown_entry e
shown_by (Covers at) = None

-- what shows by the first of some lines; nothing where there is none
abbrev pub shown_first : List Origin → Option (Entry Stamp)
shown_first [] = None
shown_first (origin ∷ origins) = shown_by origin.finding

-- the first line tells what the refreshed host shows at a path in the hierarchies of the class
abbrev pub FirstLineShows : Type 0
FirstLineShows =
    (told : HeldFile → Told) (host : Host) (base : Entries HeldFile) (class : Extension) (force : Bool) (path : List (List ℕ))
    (merge : Merge) (origins : List Origin)
    → TellsAll told
    → IsValidHost host
    → IsBaseTree host base
    → IsTrue (is_in (hierarchies_at class host) path)
    → IsRefreshed told host base class force merge
    → AreOrigins told host base class force path origins
    → shown_where (lookup (host_after host merge.plan).root path) ≡ shown_first origins

-- and what it shows at a path outside them, where no other class is merged there
abbrev pub FirstLineShowsOutside : Type 0
FirstLineShowsOutside =
    (told : HeldFile → Told) (host : Host) (base : Entries HeldFile) (class : Extension) (force : Bool) (path : List (List ℕ))
    (merge : Merge) (origins : List Origin)
    → IsBaseTree host base
    → is_in (hierarchies_at class host) path ≡ false
    → is_in (merged_hierarchies (hierarchies_in host) (present host)) path ≡ false
    → IsRefreshed told host base class force merge
    → AreOrigins told host base class force path origins
    → shown_where (lookup (host_after host merge.plan).root path) ≡ shown_first origins

-- where it is told of each file what it has, a path has one list of lines
abbrev pub OneListOfLines : Type 0
OneListOfLines =
    (told : HeldFile → Told) (host : Host) (base : Entries HeldFile) (class : Extension) (force : Bool) (path : List (List ℕ))
    (origins others : List Origin)
    → TellsAll told
    → AreOrigins told host base class force path origins
    → AreOrigins told host base class force path others
    → origins ≡ others

-- and a refresh has one list of changes
abbrev pub OneListOfChanges : Type 0
OneListOfChanges =
    (told : HeldFile → Told) (host : Host) (base : Entries HeldFile) (class : Extension) (force : Bool) (changes others : Changes)
    → TellsAll told
    → AreViewChanges told host base class force changes
    → AreViewChanges told host base class force others
    → changes ≡ others
