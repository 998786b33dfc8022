-- What contracts see of a real folder: it tells no content, as a disk and as a depot, and counts its faults. This project's
-- own.
use Rattle.std.specs.Prelude.{◌≡◌, ℕ, Bool, true, false, List, None, Result, Ok, Err, if◌then◌else◌}
use Rattle.ext_io.specs.Device.{next_count}
use Rattle.ext_disk.specs.Disk.{DiskState}
use Rattle.ext_disk.specs.declared.list_err.ListErr.{ListErr}
use Rattle.ext_disk.specs.declared.list_err.ListErr.TheVariants.{Failed, OutOfMemory}
use Rattle.ext_depot.specs.Depot.{DepotState}

-- what contracts see of a real folder: how often a call failed
pub record FolderView : Type 0 where
  -- the folder's path in the system
  pub root : List ℕ
  -- how often a call failed
  pub faults : ℕ

-- what it is as a disk
abbrev pub disk_state : FolderView → DiskState
disk_state folder = record { told = None; faults = folder.faults }

-- what it is as a depot
abbrev pub folder_depot_state : FolderView → DepotState
folder_depot_state folder = record { contents = None; faults = folder.faults }

-- the folder after a call that was done, or one that failed, which is counted
abbrev pub counted : FolderView → Bool → FolderView
counted folder done = record folder { faults = if done then folder.faults else next_count folder.faults }

-- a folder was listed or not; names that found no memory are no fault
abbrev pub CountsListing : {T : Type 0} → FolderView → FolderView → Result T ListErr → Type 0
CountsListing old new (Ok _) = new ≡ counted old true
CountsListing old new (Err Failed) = new ≡ counted old false
CountsListing old new (Err OutOfMemory) = new ≡ counted old true
