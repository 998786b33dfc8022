-- A file of the store that is copied into the depot.
use Rattle.std.specs.Prelude.{◌≡◌, ◌≢◌, ℕ, Bool, false, List, Some, length}
use Rattle.sha2.specs.Sha256.{sha256}
use Rattle.ext_text.specs.Causes.{Rose}
use Rattle.ext_text.specs.Path.{is_prefix}
use Rattle.ext_text.specs.declared.digest.Digest.{Digest}
use Rattle.ext_tree.specs.declared.stamp.Stamp.{Stamp}
use Rattle.ext_disk.specs.Disk.{Told, DiskState, BothTold}
use Rattle.ext_disk.specs.Fixed.{Spares}
use Rattle.ext_host.specs.Held.{HeldFile, IsStampOf}
use Rattle.ext_host.specs.Shelf as shelf
use Rattle.ext_host.specs.Shelf.{IsTold, IsFound, IsKeptAs}
use Rattle.ext_host.specs.declared.home.Home.{Home}
use Rattle.ext_store_files.specs.HeldFiles.{body_told}
use Rattle.ext_store_files.specs.Writing.{Holds, IsFileWith, IsWritten, is_at}
use Rattle.ext_gen.specs.declared.bad_store.BadStore.TheVariants as bad_stores
use Rattle.ext_publish.specs.declared.stop.Stop.{Stop}
use Rattle.ext_publish.specs.declared.stop.Stop.TheVariants.{OutOfMemory, Refused, DiskFault, OutFault, BadStore, Unfinished}

-- what stands changes at some paths alone
abbrev pub OnlyChangesAt : (List (List ℕ) → Bool) → Told → Told → Type 0
OnlyChangesAt at d e = (p : List (List ℕ)) → at p ≡ false → (e.places p).node ≡ (d.places p).node

-- only what is at or below the path is touched, and what stands changes at it alone
pub record WorksAt (path : List (List ℕ)) (old new : DiskState) : Type 0 where
  pub spares : Spares (is_prefix path) old new
  pub told : BothTold (OnlyChangesAt (is_at path)) old.told new.told

-- the file at the path has the bytes that the store tells, which have the stamp, and they are synced
abbrev pub IsCopyOf : shelf.Told → Stamp → List (List ℕ) → DiskState → Type 0
IsCopyOf told stamp path state = (bytes : List ℕ) × IsTold told bytes × IsStampOf bytes stamp × Holds (IsWritten path bytes) state

-- a file of the listed size stands where the held file is, where that is told
abbrev pub HasListedSize : shelf.Told → Stamp → Type 0
HasListedSize shelf.untold stamp = Unit {0}
HasListedSize shelf.missing stamp = ⊥
HasListedSize (shelf.stored bytes) stamp = length bytes ≡ stamp.size

-- the file at the path has so many bytes, all those that the store tells, and this is their digest
abbrev pub IsHashed : shelf.Told → ℕ → List (List ℕ) → DiskState → Digest → Type 0
IsHashed told size path state digest =
    (bytes : List ℕ) × IsTold told bytes × (length bytes ≡ size) × (digest.0 ≡ sha256 bytes) × Holds (IsFileWith path bytes) state

-- a kept file has another digest than is listed
abbrev pub KeptDiffers : HeldFile → Home → Digest → Stop → Type 0
KeptDiffers held home digest stop =
    (digest ≢ held.stamp.digest)
    × (stop ≡ BadStore (bad_stores.Damaged (record { home = home; listed = held.stamp; found = Some (record { size = held.stamp.size; digest = digest }) })))

-- why a kept file is not read
abbrev pub ReadHomeCause : HeldFile → DiskState → DiskState → Stop → Type 0
ReadHomeCause held store after OutOfMemory = Unit {0}
ReadHomeCause held store after (Refused refusal) = ⊥
ReadHomeCause held store after DiskFault = Rose store.faults after.faults
ReadHomeCause held store after OutFault = ⊥
ReadHomeCause held store after (BadStore (bad_stores.Broken line)) = ⊥
ReadHomeCause held store after (BadStore (bad_stores.Damaged damage)) = IsKeptAs held damage.home damage.listed × IsFound damage.listed (body_told store held.body) damage.found
ReadHomeCause held store after Unfinished = ⊥

-- why a file was not copied
abbrev pub HeldCause : HeldFile → DiskState → DiskState → DiskState → DiskState → Stop → Type 0
HeldCause held store after old new OutOfMemory = Unit {0}
HeldCause held store after old new (Refused refusal) = ⊥
HeldCause held store after old new DiskFault = Rose store.faults after.faults
HeldCause held store after old new OutFault = Rose old.faults new.faults
HeldCause held store after old new (BadStore (bad_stores.Broken line)) = ⊥
HeldCause held store after old new (BadStore (bad_stores.Damaged damage)) = IsKeptAs held damage.home damage.listed × IsFound damage.listed (body_told store held.body) damage.found
HeldCause held store after old new Unfinished = ⊥
