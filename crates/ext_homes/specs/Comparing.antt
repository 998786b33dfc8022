-- A brought file, compared with the stored files of its stamp.
use Rattle.std.specs.Prelude.{◌≡◌, ℕ, List, Option, Some, None}
use Rattle.ext_text.specs.Causes.{Rose}
use Rattle.ext_depot.specs.Depot.{DepotState}
use Rattle.ext_disk.specs.Disk.{DiskState}
use Rattle.ext_tree.specs.declared.stamp.Stamp.{Stamp}
use Rattle.ext_host.specs.Held.{HeldFile}
use Rattle.ext_host.specs.Shelf as shelf
use Rattle.ext_host.specs.Shelf.{IsFound}
use Rattle.ext_host.specs.declared.body.Body.TheVariants.{Depot}
use Rattle.ext_host.specs.declared.home.Home.{Home}
use Rattle.ext_store_files.specs.HeldFiles.{IsListed}
use Rattle.ext_store_files.specs.declared.errors.CompareErr.{CompareErr}
use Rattle.ext_store_files.specs.declared.errors.CompareErr.TheVariants as compare_errors
use Rattle.ext_store_files.specs.Copying.{IsMissing, IsReadStamp}
use Rattle.ext_homes.specs.Giving.{home_told}
use Rattle.ext_homes.specs.KeptFiles.{lists_in}
use Rattle.ext_homes.specs.Placed.{Stored, HasNone, IsLeastHome, brought_told}
use Rattle.ext_homes.specs.declared.errors.HomesErr.{HomesErr}
use Rattle.ext_store_files.specs.declared.fault.StoreFault.TheVariants.{OutOfMemory, DiskFault, DepotFault, Damaged}
use Rattle.ext_homes.specs.declared.errors.HomesErr.TheVariants.{Fault, Mismatch, NotInDepot}
use Rattle.ext_homes.specs.declared.kept_files.KeptFile.{KeptFile}

-- what the store has: what a list of kept files says, and what the disk tells
abbrev pub stored_in : List KeptFile → DiskState → Stored
stored_in files disk = record { lists = lists_in files; told = home_told disk }

-- the least home that has the brought bytes, if there is one
abbrev pub IsLeastOrNone : Stored → Stamp → shelf.Told → Option Home → Type 0
IsLeastOrNone old stamp brought None = HasNone old stamp brought
IsLeastOrNone old stamp brought (Some home) = IsLeastHome old stamp brought home

-- a comparison that fails gives no home, for the same reason, with the path of the depot's file
abbrev pub homes_err_of_compare : CompareErr → List (List ℕ) → HomesErr
homes_err_of_compare (compare_errors.Fault fault) path = Fault fault
homes_err_of_compare compare_errors.NotInDepot path = NotInDepot path
homes_err_of_compare (compare_errors.Mismatch listed found) path = Mismatch path listed found

-- why a brought file is not compared with the one at a home, of which this is told: that one comes first
abbrev pub SameCause : DiskState → DiskState → DepotState → DepotState → shelf.Told → Home → HeldFile → HomesErr → Type 0
SameCause disk new depot after ours home held (Fault OutOfMemory) = Unit {0}
SameCause disk new depot after ours home held (Fault DiskFault) = Rose disk.faults new.faults
SameCause disk new depot after ours home held (Fault DepotFault) = Rose depot.faults after.faults
SameCause disk new depot after ours home held (Fault (Damaged damage)) = (damage.home ≡ home) × (damage.listed ≡ held.stamp) × IsFound damage.listed ours damage.found
SameCause disk new depot after ours home held (Mismatch path listed found) =
    (held.body ≡ Depot path) × (listed ≡ held.stamp) × IsListed ours listed × IsReadStamp (brought_told depot held.body) listed found
SameCause disk new depot after ours home held (NotInDepot path) =
    (held.body ≡ Depot path) × IsListed ours held.stamp × IsMissing (brought_told depot held.body)
