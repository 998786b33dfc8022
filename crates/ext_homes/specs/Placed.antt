-- Homes of a coming generation, this project's own. A file that the host before had keeps its home. A file that a change
-- brings takes the least home at which the store has a file of the same bytes, generation first. Every other file is
-- written, and numbered 0, 1 and so on in the order in which an index lists them: root, then lower.
use Rattle.std.specs.Prelude.{◌≡◌, ℕ, ◌+◌, ◌⊎◌, true, false, List, [], ◌∷◌, ◌++◌, length}
use Rattle.std.specs.Ordering.{nat_cmp, ordering_then}
use Rattle.std.specs.declared.cmp.Ordering.{Ordering}
use Rattle.std.specs.declared.cmp.Ordering.TheVariants.{Less}
use Rattle.ext_depot.specs.Depot.{DepotState}
use Rattle.ext_tree.specs.Tree.{Entries}
use Rattle.ext_tree.specs.declared.entry.Entry.{Entry}
use Rattle.ext_tree.specs.declared.entry.Entry.TheVariants.{Dir, Opaque, File, Link, Hide}
use Rattle.ext_tree.specs.declared.stamp.Stamp.{Stamp}
use Rattle.ext_host.specs.Held.{HeldFile, IsStampOf}
use Rattle.ext_host.specs.Shelf as shelf
use Rattle.ext_host.specs.Shelf.{IsTold}
use Rattle.ext_host.specs.declared.body.Body.{Body}
use Rattle.ext_host.specs.declared.body.Body.TheVariants.{Here, Kept, Depot}
use Rattle.ext_host.specs.declared.home.Home.{Home}
use Rattle.ext_host.specs.declared.host.Host.{Host}
use Rattle.ext_store_files.specs.Comparing.{IsCompared}
use Rattle.ext_store_files.specs.Copying.{depot_told}

-- at which homes it lists a file of a stamp, and what is told of the bytes at each home
pub record Stored : Type 1 where
  pub lists : Stamp → Home → Type 0
  pub told : Home → shelf.Told

-- generations first, then the numbers of files
abbrev pub home_cmp : Home → Home → Ordering
home_cmp a b = ordering_then (nat_cmp a.generation b.generation) (nat_cmp a.file b.file)

-- each lesser home that lists the stamp has a file of it, where that is told, and other bytes than those that are brought
abbrev pub DifferBefore : Stored → Stamp → shelf.Told → Home → Type 0
DifferBefore old stamp brought home =
    (other : Home) → old.lists stamp other → home_cmp other home ≡ Less → IsCompared (old.told other) brought stamp false

-- the home is the least of those that list the stamp and have the brought bytes
pub record IsLeastHome (old : Stored) (stamp : Stamp) (brought : shelf.Told) (home : Home) : Type 0 where
  pub listed : old.lists stamp home
  pub same : IsCompared (old.told home) brought stamp true
  pub least : DifferBefore old stamp brought home

-- no home that lists the stamp has the brought bytes
abbrev pub HasNone : Stored → Stamp → shelf.Told → Type 0
HasNone old stamp brought = (other : Home) → old.lists stamp other → IsCompared (old.told other) brought stamp false

-- what is told of the bytes that a change brings: those that are here, or those of a file of the depot
abbrev pub brought_told : DepotState → Body → shelf.Told
brought_told depot (Here bytes) = shelf.stored bytes
brought_told depot (Kept home) = shelf.untold
brought_told depot (Depot path) = depot_told depot path

-- A file that is brought takes a home that the store has, and then nothing is written; or the next number in the new
-- generation, and then its bytes are, which have its stamp.
abbrev pub TakesHome : Stored → ℕ → Stamp → shelf.Told → ℕ → Home → List (List ℕ) → Type 0
TakesHome old generation stamp brought next home written =
    (IsLeastHome old stamp brought home × (written ≡ []))
    ⊎ (HasNone old stamp brought × (home ≡ record { generation = generation; file = next })
    × ((bytes : List ℕ) × IsTold brought bytes × IsStampOf bytes stamp × (written ≡ bytes ∷ [])))

-- the brought file has its home: the least that has its bytes, or the next number
abbrev pub IsBroughtTo : Stored → DepotState → ℕ → HeldFile → ℕ → HeldFile → List (List ℕ) → Type 0
IsBroughtTo old depot generation held next new written =
    (home : Home) × TakesHome old generation held.stamp (brought_told depot held.body) next home written × (new ≡ record { stamp = held.stamp; body = Kept home })

-- a file has its home: its own where it is kept, else that to which it is brought
abbrev pub IsBodyPlaced : Stored → DepotState → ℕ → HeldFile → Body → ℕ → HeldFile → List (List ℕ) → Type 0
IsBodyPlaced old depot generation held (Here bytes) next new written = IsBroughtTo old depot generation held next new written
IsBodyPlaced old depot generation held (Kept home) next new written = (new ≡ held) × (written ≡ [])
IsBodyPlaced old depot generation held (Depot path) next new written = IsBroughtTo old depot generation held next new written

-- the file as the new host has it, with its home, and the bytes that were written for it
abbrev pub IsFilePlaced : Stored → DepotState → ℕ → HeldFile → ℕ → HeldFile → List (List ℕ) → Type 0
IsFilePlaced old depot generation held next new written = IsBodyPlaced old depot generation held held.body next new written

-- an entry's file has its home; other entries stay
abbrev pub IsEntryPlaced : Stored → DepotState → ℕ → Entry HeldFile → ℕ → Entry HeldFile → List (List ℕ) → Type 0
IsEntryPlaced old depot generation (Dir attributes) next new written = (new ≡ Dir attributes) × (written ≡ [])
IsEntryPlaced old depot generation (Opaque attributes) next new written = (new ≡ Opaque attributes) × (written ≡ [])
IsEntryPlaced old depot generation (File attributes held) next new written =
    (placed : HeldFile) × IsFilePlaced old depot generation held next placed written × (new ≡ File attributes placed)
IsEntryPlaced old depot generation (Link owner target) next new written = (new ≡ Link owner target) × (written ≡ [])
IsEntryPlaced old depot generation Hide next new written = (new ≡ Hide) × (written ≡ [])

-- the files of entries have their homes, in their order
abbrev pub ArePlaced : Stored → DepotState → ℕ → Entries HeldFile → ℕ → Entries HeldFile → List (List ℕ) → Type 0
ArePlaced old depot generation [] next new written = (new ≡ []) × (written ≡ [])
ArePlaced old depot generation (x ∷ es) next new written =
    (e : Entry HeldFile) × (fs : Entries HeldFile) × (first : List (List ℕ)) × (rest : List (List ℕ))
    × IsEntryPlaced old depot generation x.1 next e first × ArePlaced old depot generation es (next + length first) fs rest
    × (new ≡ (x.0, e) ∷ fs) × (written ≡ first ++ rest)

-- root and lower
abbrev pub AreBothPlaced : Stored → DepotState → ℕ → Entries HeldFile → Entries HeldFile → ℕ → Entries HeldFile → Entries HeldFile → List (List ℕ) → Type 0
AreBothPlaced old depot generation root lower next new_root new_lower written =
    (first : List (List ℕ)) × (rest : List (List ℕ))
    × ArePlaced old depot generation root next new_root first × ArePlaced old depot generation lower (next + length first) new_lower rest
    × (written ≡ first ++ rest)

-- The host with a home for each file of root and lower, and the bytes of the files that were written, in the order of their
-- numbers. Past trees bring no files.
abbrev pub IsHostPlaced : Stored → DepotState → ℕ → Host → Host → List (List ℕ) → Type 0
IsHostPlaced old depot generation host new written =
    (root : Entries HeldFile) × (lower : Entries HeldFile)
    × AreBothPlaced old depot generation host.root host.lower 0 root lower written
    × (new ≡ record host { root = root; lower = lower })
