-- What giving homes to the files of a coming host asks and leaves.
use Rattle.std.specs.Prelude.{◌≡◌, ℕ, ◌<◌, List, [], length, Option, Some, None}
use Rattle.ext_depot.specs.Depot.{DepotState}
use Rattle.ext_disk.specs.Disk.{DiskState, BothTold}
use Rattle.ext_tree.specs.Tree.{Entries}
use Rattle.ext_tree.specs.declared.stamp.Stamp.{Stamp}
use Rattle.ext_host.specs.Drawn.{IsFileOf, trees_of}
use Rattle.ext_host.specs.Held.{HeldFile}
use Rattle.ext_host.specs.Shelf as shelf
use Rattle.ext_host.specs.declared.body.Body.TheVariants.{Kept}
use Rattle.ext_host.specs.declared.home.Home.{Home}
use Rattle.ext_host.specs.declared.host.Host.{Host}
use Rattle.ext_store_files.specs.HeldFiles.{path_told}
use Rattle.ext_store_files.specs.Names.{IsFileNumber, home_path}
use Rattle.ext_homes.specs.Placed.{Stored, IsHostPlaced}
use Rattle.ext_homes.specs.Written.{Writes}
use Rattle.ext_homes.specs.declared.giving.Placed.{Placed}

-- its trees; of no host, none
abbrev pub trees_before : Option Host → List (Entries HeldFile)
trees_before None = []
trees_before (Some host) = trees_of host

-- one of the trees has a file of this stamp, which is kept at this home
abbrev pub lists_kept : List (Entries HeldFile) → Stamp → Home → Type 0
lists_kept trees stamp home = IsFileOf trees (record { stamp = stamp; body = Kept home })

-- each home that is listed is in an earlier generation, under the number of a file
abbrev pub AreBefore : ℕ → (Stamp → Home → Type 0) → Type 0
AreBefore generation lists = (stamp : Stamp) (home : Home) → lists stamp home → (home.generation < generation) × IsFileNumber home.file

-- each home that is listed has the number of a file
abbrev pub AreNumbered : (Stamp → Home → Type 0) → Type 0
AreNumbered lists = (stamp : Stamp) (home : Home) → lists stamp home → IsFileNumber home.file

-- each kept file of the trees is in an earlier generation
abbrev pub AreHomesBefore : ℕ → List (Entries HeldFile) → Type 0
AreHomesBefore generation trees = AreBefore generation (lists_kept trees)

-- what a disk tells of the file at a home
abbrev pub home_told : DiskState → Home → shelf.Told
home_told disk home = path_told disk (home_path home.generation home.file)

-- what the store has: what the host before lists, and what the disk tells
abbrev pub stored_by : Option Host → DiskState → Stored
stored_by from disk = record { lists = lists_kept (trees_before from); told = home_told disk }

-- each file has its home, and those that are new are written, in the order of their numbers
pub record Gives (from : Option Host) (generation : ℕ) (host : Host) (old new : DiskState) (depot : DepotState) (placed : Placed) : Type 0 where
  pub written : List (List ℕ)
  pub homes : IsHostPlaced (stored_by from old) depot generation host placed.host written
  pub count : placed.files ≡ length written
  pub told : BothTold (Writes generation 0 written) old.told new.told
