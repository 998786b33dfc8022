-- The files of a coming host, given their homes one after another.
use Rattle.std.specs.Prelude.{◌≡◌, ℕ, ◌+◌, ◌≤◌, List, length}
use Rattle.ext_depot.specs.Depot.{DepotState}
use Rattle.ext_disk.specs.Disk.{DiskState, BothTold}
use Rattle.ext_tree.specs.declared.entry.Entry.{Entry}
use Rattle.ext_tree.specs.declared.entry.Entry.TheVariants.{Dir, Opaque, File, Link, Hide}
use Rattle.ext_tree.specs.declared.stamp.Stamp.{Stamp}
use Rattle.ext_host.specs.Held.{HeldFile}
use Rattle.ext_homes.specs.Placed.{Stored}
use Rattle.ext_homes.specs.Refused.{HomeCause}
use Rattle.ext_homes.specs.Written.{Writes}
use Rattle.ext_homes.specs.declared.errors.HomesErr.{HomesErr}

-- Files have their homes, as this says of the bytes that were written for them, from the number `next` on; `files` are then
-- written. No more were than were brought, with these stamps.
pub record Placing (Homes : List (List ℕ) → Type 0) (generation next files : ℕ) (stamps : List Stamp) (old new : DiskState) : Type 0 where
  pub written : List (List ℕ)
  pub homes : Homes written
  pub count : files ≡ next + length written
  pub few : length written ≤ length stamps
  pub told : BothTold (Writes generation next written) old.told new.told

-- why the file of an entry got no home
abbrev pub EntryCause : DiskState → DiskState → DepotState → DepotState → Stored → Entry HeldFile → HomesErr → Type 0
EntryCause disk new depot after old (Dir attributes) e = ⊥
EntryCause disk new depot after old (Opaque attributes) e = ⊥
EntryCause disk new depot after old (File attributes held) e = HomeCause disk new depot after old held e
EntryCause disk new depot after old (Link owner target) e = ⊥
EntryCause disk new depot after old Hide e = ⊥
