-- What stands of a coming generation, and what of it is synced, from one part of a change to the next.
use Rattle.std.specs.Prelude.{◌≡◌, ℕ, ◌<◌, Bool, true, false, List, [], ◌∷◌, ◌++◌, length, Option, None, Some}
use Rattle.std.specs.List.{sum_by}
use Rattle.std.specs.Option.{is_some}
use Rattle.ext_depot.specs.Depot.{DepotState}
use Rattle.ext_disk.specs.Disk.{folder, file, Places, Told, DiskState, BothTold, is_durable, is_folder, is_synced}
use Rattle.ext_host.specs.declared.host.Host.{Host}
use Rattle.ext_store_files.specs.Appended.{raised}
use Rattle.ext_store_files.specs.LeftOvers.{is_left_path}
use Rattle.ext_store_files.specs.Names.{current_text, generation_path, home_folder, home_path, index_path, next_path}
use Rattle.ext_store_files.specs.Writing.{IsMade, IsWritten}
use Rattle.ext_homes.specs.Giving.{stored_by}
use Rattle.ext_homes.specs.Placed.{IsHostPlaced}
use Rattle.ext_homes.specs.Written.{AreWritten}
use Rattle.ext_homes.specs.declared.giving.Placed.{Placed}

-- a folder stands there
abbrev pub IsFolderAt : List (List ℕ) → Places → Type 0
IsFolderAt path d = is_folder (d path).node ≡ true

-- nothing stands there
abbrev pub IsAbsent : List (List ℕ) → Places → Type 0
IsAbsent path d = (d path).node ≡ None

-- the folders of so many files stand
abbrev pub HasHomeFolders : ℕ → ℕ → Places → Type 0
HasHomeFolders n files d = (k : ℕ) → k < files → IsFolderAt (home_folder n k) d

-- the names of so many files are synced in their folders
abbrev pub AreSynced : ℕ → ℕ → Places → Type 0
AreSynced n files d = (k : ℕ) → k < files → is_synced (d (home_path n k)) ≡ true

-- each name in the folder is synced
abbrev pub AreSyncedIn : List (List ℕ) → Places → Type 0
AreSyncedIn dir d = (name : List ℕ) → is_synced (d (dir ++ name ∷ [])) ≡ true

-- a file was put into a folder: its bytes are synced, and so is each name in the folder
pub record IsPutSynced (dir path : List (List ℕ)) (bytes : List ℕ) (d : Places) : Type 0 where
  pub written : IsWritten path bytes d
  pub names : AreSyncedIn dir d

-- 1. Of the left-overs nothing stands any more, and the folder of the coming generation is there.
pub record IsGenerationOpen (left : ℕ → Bool) (n : ℕ) (d : Places) : Type 0 where
  pub made : IsMade (generation_path n) d
  pub no_next : IsAbsent next_path d
  pub clear : (p : List (List ℕ)) → is_left_path left p ≡ true → is_some (d p).node ≡ true → p ≡ generation_path n

-- the folder of the coming generation
pub record HasFolder (n : ℕ) (d : Places) : Type 0 where
  pub stands : (d (generation_path n)).node ≡ Some folder
  pub hard : (d (generation_path n)).unsynced_bytes ≡ false

-- 2. Its files are written, and their names are synced in their folders.
pub record IsFilled (n : ℕ) (written : List (List ℕ)) (d : Places) : Type 0 where
  pub generation : HasFolder n d
  pub files : AreWritten n 0 written d
  pub synced : AreSynced n (length written) d
  pub no_index : IsAbsent (index_path n) d
  pub no_next : IsAbsent next_path d

-- 3. Its index is written too, and the names in its folder are synced.
pub record IsIndexed (n : ℕ) (written : List (List ℕ)) (text : List ℕ) (d : Places) : Type 0 where
  pub generation : HasFolder n d
  pub files : AreWritten n 0 written d
  pub synced : AreSynced n (length written) d
  pub index : IsPutSynced (generation_path n) (index_path n) text d
  pub no_next : IsAbsent next_path d

-- 4. `next` names it, and all of it is durable.
pub record IsComplete (n : ℕ) (written : List (List ℕ)) (text : List ℕ) (d : Places) : Type 0 where
  pub generation : is_durable d (generation_path n) ≡ true
  pub index : is_durable d (index_path n) ≡ true
  pub index_is : (d (index_path n)).node ≡ Some (file text)
  pub next : is_durable d next_path ≡ true
  pub next_is : (d next_path).node ≡ Some (file (current_text n))
  pub durable : (k : ℕ) → k < length written → is_durable d (home_path n k) ≡ true
  pub files : AreWritten n 0 written d

-- the files are written, and nothing else was appended
pub record FillsTold (n : ℕ) (written : List (List ℕ)) (d e : Told) : Type 0 where
  pub filled : IsFilled n written e.places
  pub appended : e.appended ≡ raised d.appended (sum_by length written)

-- the host has its homes, and the files that the store lacked are written
pub record Fills (from : Option Host) (n : ℕ) (host : Host) (old new : DiskState) (depot : DepotState) (placed : Placed) : Type 0 where
  pub written : List (List ℕ)
  pub homes : IsHostPlaced (stored_by from old) depot n host placed.host written
  pub count : placed.files ≡ length written
  pub told : BothTold (FillsTold n written) old.told new.told

-- whatever files were written, the generation is complete with them
abbrev pub CompletesGeneration : ℕ → List ℕ → Told → Told → Type 0
CompletesGeneration n text d e = (written : List (List ℕ)) → IsFilled n written d.places → IsComplete n written text e.places
