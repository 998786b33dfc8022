-- Why a file that a change brings gets no home: a home that lists its stamp has another file, or else the depot's file is
-- missing or another. Homes are looked at from the least on, and each before the brought file; so where the least one has
-- its file, the brought one is what decides. The first such file stops the change.
use Rattle.std.specs.Prelude.{◌≡◌, ◌≢◌, ℕ, true, List, ◌∷◌, ◌++◌, Option}
use Rattle.std.specs.declared.cmp.Ordering.TheVariants.{Less}
use Rattle.ext_attributes.specs.Attributes.{OfFile}
use Rattle.ext_text.specs.Causes.{Rose}
use Rattle.ext_depot.specs.Depot.{DepotState}
use Rattle.ext_disk.specs.Disk.{DiskState}
use Rattle.ext_tree.specs.Tree.{Entries}
use Rattle.ext_tree.specs.declared.entry.Entry.TheVariants.{File}
use Rattle.ext_tree.specs.declared.stamp.Stamp.{Stamp}
use Rattle.ext_host.specs.Held.{HeldFile}
use Rattle.ext_host.specs.Shelf as shelf
use Rattle.ext_host.specs.Shelf.{IsFound}
use Rattle.ext_host.specs.declared.body.Body.TheVariants.{Depot}
use Rattle.ext_host.specs.declared.home.Home.{Home}
use Rattle.ext_store_files.specs.HeldFiles.{IsListed}
use Rattle.ext_store_files.specs.Copying.{IsMissing, IsReadStamp}
use Rattle.ext_homes.specs.Brought.{is_brought}
use Rattle.ext_homes.specs.Placed.{Stored, home_cmp, DifferBefore, brought_told, ArePlaced}
use Rattle.ext_homes.specs.declared.errors.HomesErr.{HomesErr}
use Rattle.ext_store_files.specs.declared.fault.StoreFault.TheVariants.{OutOfMemory, DiskFault, DepotFault, Damaged}
use Rattle.ext_homes.specs.declared.errors.HomesErr.TheVariants.{Fault, Mismatch, NotInDepot}

-- the home lists the stamp and has another file, which was found; the lesser ones have files of the stamp, with other bytes
-- than those that are brought
pub record IsDamaged (old : Stored) (stamp : Stamp) (brought : shelf.Told) (home : Home) (found : Option Stamp) : Type 0 where
  pub listed : old.lists stamp home
  pub least : DifferBefore old stamp brought home
  pub differs : IsFound stamp (old.told home) found

-- the least home that lists the stamp, if there is one, has a file of it
abbrev pub IsFirstIntact : Stored → Stamp → Type 0
IsFirstIntact old stamp = (home : Home) → old.lists stamp home → ((other : Home) → old.lists stamp other → home_cmp other home ≢ Less) → IsListed (old.told home) stamp

-- when each answer may come for one file
abbrev pub HomeCause : DiskState → DiskState → DepotState → DepotState → Stored → HeldFile → HomesErr → Type 0
HomeCause disk new depot after old held (Fault OutOfMemory) = Unit {0}
HomeCause disk new depot after old held (Fault DiskFault) = Rose disk.faults new.faults
HomeCause disk new depot after old held (Fault DepotFault) = Rose depot.faults after.faults
HomeCause disk new depot after old held (Fault (Damaged damage)) =
    (is_brought held.body ≡ true) × (damage.listed ≡ held.stamp) × IsDamaged old damage.listed (brought_told depot held.body) damage.home damage.found
HomeCause disk new depot after old held (Mismatch path listed found) =
    (held.body ≡ Depot path) × (listed ≡ held.stamp) × IsFirstIntact old listed × IsReadStamp (brought_told depot held.body) listed found
HomeCause disk new depot after old held (NotInDepot path) =
    (held.body ≡ Depot path) × IsFirstIntact old held.stamp × IsMissing (brought_told depot held.body)

-- there is a file of which this holds, and each file before it has its home
pub record StopsAt (old : Stored) (depot : DepotState) (generation : ℕ) (es : Entries HeldFile) (next : ℕ) (Why : HeldFile → Type 0) : Type 0 where
  pub before : Entries HeldFile
  pub after : Entries HeldFile
  pub path : List (List ℕ)
  pub attributes : OfFile
  pub held : HeldFile
  pub entries : es ≡ before ++ (path, File attributes held) ∷ after
  pub placed : Entries HeldFile
  pub written : List (List ℕ)
  pub homes : ArePlaced old depot generation before next placed written
  pub why : Why held

-- when each answer may come: those on files at the first one that gets no home
abbrev pub HomesCause : DiskState → DiskState → DepotState → DepotState → Stored → ℕ → Entries HeldFile → ℕ → HomesErr → Type 0
HomesCause disk new depot after old generation es next (Fault OutOfMemory) = Unit {0}
HomesCause disk new depot after old generation es next (Fault DiskFault) = Rose disk.faults new.faults
HomesCause disk new depot after old generation es next (Fault DepotFault) = Rose depot.faults after.faults
HomesCause disk new depot after old generation es next (Fault (Damaged damage)) =
    StopsAt old depot generation es next (λ held. HomeCause disk new depot after old held (Fault (Damaged damage)))
HomesCause disk new depot after old generation es next (Mismatch path listed found) =
    StopsAt old depot generation es next (λ held. HomeCause disk new depot after old held (Mismatch path listed found))
HomesCause disk new depot after old generation es next (NotInDepot path) =
    StopsAt old depot generation es next (λ held. HomeCause disk new depot after old held (NotInDepot path))
