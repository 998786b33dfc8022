-- What the homes of a coming generation are where all is told: a law of bytes, in which stamps have no part.
use Rattle.std.specs.Prelude.{◌≡◌, ◌≢◌, ℕ, ◌+◌, ◌⊎◌, List, [], ◌∷◌, Option, Some, length}
use Rattle.std.specs.List.{sum_by}
use Rattle.std.specs.declared.cmp.Ordering.TheVariants.{Less}
use Rattle.ext_depot.specs.Depot.{DepotState, Files}
use Rattle.ext_disk.specs.Disk.{DiskState}
use Rattle.ext_tree.specs.Tree.{Entries}
use Rattle.ext_tree.specs.declared.entry.Entry.{Entry}
use Rattle.ext_tree.specs.declared.entry.Entry.TheVariants.{Dir, Opaque, File, Link, Hide}
use Rattle.ext_tree.specs.declared.stamp.Stamp.{Stamp}
use Rattle.ext_host.specs.Held.{HeldFile, IsStampOf}
use Rattle.ext_host.specs.Shelf as shelf
use Rattle.ext_host.specs.declared.body.Body.{Body}
use Rattle.ext_host.specs.declared.body.Body.TheVariants.{Here, Kept, Depot}
use Rattle.ext_host.specs.declared.home.Home.{Home}
use Rattle.ext_host.specs.declared.host.Host.{Host}
use Rattle.ext_homes.specs.Giving.{stored_by}
use Rattle.ext_homes.specs.Placed.{IsHostPlaced, Stored, TakesHome, brought_told, home_cmp}

-- at each home that is listed the store has these bytes, which have the listed stamp
pub record HasBytes (old : Stored) (contents : Home → List ℕ) : Type 0 where
  pub told : (stamp : Stamp) (home : Home) → old.lists stamp home → old.told home ≡ shelf.stored (contents home)
  pub stamped : (stamp : Stamp) (home : Home) → old.lists stamp home → IsStampOf (contents home) stamp

-- the home is the least at which the store has these bytes
pub record IsLeastOf (old : Stored) (contents : Home → List ℕ) (bytes : List ℕ) (home : Home) : Type 0 where
  pub stamp : Stamp
  pub listed : old.lists stamp home
  pub same : contents home ≡ bytes
  pub least : (other : Stamp) (at : Home) → old.lists other at → contents at ≡ bytes → home_cmp at home ≢ Less

-- it has them at no home
abbrev pub HasNowhere : Stored → (Home → List ℕ) → List ℕ → Type 0
HasNowhere old contents bytes = (stamp : Stamp) (home : Home) → old.lists stamp home → contents home ≢ bytes

-- A brought file takes the least home at which the store has its bytes; where it has them at none, it is written and takes
-- the next number.
abbrev pub TakesHomeOfBytes : Type 0
TakesHomeOfBytes =
    (from : Option Host) (disk : DiskState) (contents : Home → List ℕ) → HasBytes (stored_by from disk) contents
    → (generation next : ℕ) (stamp : Stamp) (bytes : List ℕ) (home : Home) (written : List (List ℕ)) → TakesHome (stored_by from disk) generation stamp (shelf.stored bytes) next home written
    → (IsLeastOf (stored_by from disk) contents bytes home × (written ≡ []))
    ⊎ (HasNowhere (stored_by from disk) contents bytes × (home ≡ record { generation = generation; file = next }) × (written ≡ bytes ∷ []))

-- So a host is placed in one way.
abbrev pub PlacedInOneWay : Type 0
PlacedInOneWay =
    (from : Option Host) (disk : DiskState) (contents : Home → List ℕ) → HasBytes (stored_by from disk) contents
    → (depot : DepotState) (files : Files) → depot.contents ≡ Some files
    → (generation : ℕ) (host one two : Host) (first second : List (List ℕ)) → IsHostPlaced (stored_by from disk) depot generation host one first → IsHostPlaced (stored_by from disk) depot generation host two second
    → (one ≡ two) × (first ≡ second)

-- how much of a brought file is new: its listed size where the store has its bytes at no home, else nothing
abbrev pub IsNewSize : Stored → (Home → List ℕ) → shelf.Told → Stamp → ℕ → Type 0
IsNewSize old contents brought stamp n =
    (bytes : List ℕ) × (brought ≡ shelf.stored bytes)
    × ((HasNowhere old contents bytes × (n ≡ stamp.size)) ⊎ (((home : Home) × IsLeastOf old contents bytes home) × (n ≡ 0)))

-- of a file that is kept nothing is
abbrev pub IsNewBody : Stored → (Home → List ℕ) → DepotState → Stamp → Body → ℕ → Type 0
IsNewBody old contents depot stamp (Here bytes) n = IsNewSize old contents (shelf.stored bytes) stamp n
IsNewBody old contents depot stamp (Kept home) n = n ≡ 0
IsNewBody old contents depot stamp (Depot path) n = IsNewSize old contents (brought_told depot (Depot path)) stamp n

-- and nothing of an entry that is no file
abbrev pub IsNewEntry : Stored → (Home → List ℕ) → DepotState → Entry HeldFile → ℕ → Type 0
IsNewEntry old contents depot (Dir attributes) n = n ≡ 0
IsNewEntry old contents depot (Opaque attributes) n = n ≡ 0
IsNewEntry old contents depot (File attributes held) n = IsNewBody old contents depot held.stamp held.body n
IsNewEntry old contents depot (Link owner target) n = n ≡ 0
IsNewEntry old contents depot Hide n = n ≡ 0

-- the sizes of the file entries whose bytes the store has at no home, added up
abbrev pub SizesOfNew : Stored → (Home → List ℕ) → DepotState → Entries HeldFile → ℕ → Type 0
SizesOfNew old contents depot [] n = n ≡ 0
SizesOfNew old contents depot (e ∷ es) n =
    (first : ℕ) × (rest : ℕ) × IsNewEntry old contents depot e.1 first × SizesOfNew old contents depot es rest × (n ≡ first + rest)

-- What is written of files are as many bytes as the file entries of root and lower have whose bytes no file of the host before
-- has.
abbrev pub WritesWhatIsNew : Type 0
WritesWhatIsNew =
    (from : Option Host) (disk : DiskState) (contents : Home → List ℕ) → HasBytes (stored_by from disk) contents
    → (depot : DepotState) (files : Files) → depot.contents ≡ Some files
    → (generation : ℕ) (host new : Host) (written : List (List ℕ)) → IsHostPlaced (stored_by from disk) depot generation host new written
    → (root : ℕ) × (lower : ℕ) × SizesOfNew (stored_by from disk) contents depot host.root root × SizesOfNew (stored_by from disk) contents depot host.lower lower × (sum_by length written ≡ root + lower)
