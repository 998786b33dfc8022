-- Held files and the disk of a store: which of them it serves, what it tells of each, and what is read of it.
use Rattle.std.specs.Prelude.{◌≡◌, ◌≢◌, ℕ, ◌+◌, ◌≤◌, Bool, true, false, nat_lt, List, ◌++◌, length, drop, Option, Some, None}
use Rattle.sha2.specs.Sha256.{sha256}
use Rattle.ext_io.specs.Device.{IsReadAt}
use Rattle.ext_text.specs.Causes.{Rose}
use Rattle.ext_text.specs.declared.digest.Digest.{Digest}
use Rattle.ext_tree.specs.declared.stamp.Stamp.{Stamp}
use Rattle.ext_disk.specs.Disk as disk
use Rattle.ext_disk.specs.Disk.{Node, folder, file, DiskState}
use Rattle.ext_host.specs.Held.{HeldFile, IsStampOf}
use Rattle.ext_host.specs.Shelf as shelf
use Rattle.ext_host.specs.Shelf.{untold, missing, stored, IsKeptAs, IsFound, ShelfCause}
use Rattle.ext_host.specs.declared.home.Home.{Home}
use Rattle.ext_host.specs.declared.body.Body.{Body}
use Rattle.ext_host.specs.declared.body.Body.TheVariants.{Here, Kept, Depot}
use Rattle.ext_host.specs.declared.shelf.ShelfErr.{ShelfErr}
use Rattle.ext_host.specs.declared.shelf.ShelfErr.TheVariants.{OutOfMemory, Fault, Damaged}
use Rattle.ext_host.specs.Home.{most_files_of_generation}
use Rattle.ext_store_files.specs.Names.{home_path}

-- the bytes are here, or at a home whose file has the number of one
abbrev pub is_served : Body → Bool
is_served (Here bytes) = true
is_served (Kept home) = nat_lt home.file most_files_of_generation
is_served (Depot path) = false

-- what is told of what stands at a path: its bytes where it is a file
abbrev pub node_told : Option Node → shelf.Told
node_told None = missing
node_told (Some folder) = missing
node_told (Some (file bytes)) = stored bytes

-- what a disk tells of a path
abbrev pub told_at : Option disk.Told → List (List ℕ) → shelf.Told
told_at None path = untold
told_at (Some d) path = node_told (d.places path).node

-- what is told of the file at a path
abbrev pub path_told : DiskState → List (List ℕ) → shelf.Told
path_told state path = told_at state.told path

-- what is told of the bytes of a held file
abbrev pub body_told : DiskState → Body → shelf.Told
body_told state (Here bytes) = stored bytes
body_told state (Kept home) = path_told state (home_path home.generation home.file)
body_told state (Depot path) = untold

-- the bytes have the listed stamp, where they are told
abbrev pub IsListed : shelf.Told → Stamp → Type 0
IsListed untold listed = Unit {0}
IsListed missing listed = ⊥
IsListed (stored bytes) listed = IsStampOf bytes listed

-- these are the next bytes from the byte `at` on, where they are told
abbrev pub IsNextPiece : shelf.Told → ℕ → List ℕ → Type 0
IsNextPiece untold at piece = Unit {0}
IsNextPiece missing at piece = ⊥
IsNextPiece (stored bytes) at piece = drop at bytes ≡ piece ++ drop (at + length piece) bytes

-- no file stands there, or it has no byte at the place, where that is told
abbrev pub EndsBy : shelf.Told → ℕ → Type 0
EndsBy untold at = Unit {0}
EndsBy missing at = Unit {0}
EndsBy (stored bytes) at = length bytes ≤ at

-- what a read from the byte `at` on gave, where it is told what stands there: 0 where no file does
abbrev pub IsReadFrom : shelf.Told → ℕ → List ℕ → ℕ → Type 0
IsReadFrom untold at buf count = Unit {0}
IsReadFrom missing at buf count = count ≡ 0
IsReadFrom (stored bytes) at buf count = IsReadAt bytes at buf count

-- the digest of a file of this size, and none exactly where none stands there, where that is told
abbrev pub IsDigestAt : shelf.Told → ℕ → Option Digest → Type 0
IsDigestAt untold size digest = Unit {0}
IsDigestAt missing size digest = digest ≡ None
IsDigestAt (stored bytes) size None = length bytes ≢ size
IsDigestAt (stored bytes) size (Some digest) = (length bytes ≡ size) × (digest.0 ≡ sha256 bytes)

-- why a piece of a held file was not read: no memory, a fault of the disk, or a kept file that ends by the place asked for
abbrev pub PieceCause : ℕ → ℕ → shelf.Told → HeldFile → ℕ → ShelfErr → Type 0
PieceCause old new told held at OutOfMemory = Unit {0}
PieceCause old new told held at Fault = Rose old new
PieceCause old new told held at (Damaged damage) = IsKeptAs held damage.home damage.listed × (damage.found ≡ None) × EndsBy told at

-- why a file that is kept at the home with this stamp is not given
abbrev pub KeptCause : DiskState → DiskState → Home → Stamp → ShelfErr → Type 0
KeptCause old new home listed e =
    ShelfCause old.faults new.faults (path_told old (home_path home.generation home.file)) (record { stamp = listed; body = Kept home }) e

-- why bytes of a file that is kept at the home are not given
abbrev pub KeptPieceCause : DiskState → DiskState → Home → Stamp → ℕ → ShelfErr → Type 0
KeptPieceCause old new home listed at e =
    PieceCause old.faults new.faults (path_told old (home_path home.generation home.file)) (record { stamp = listed; body = Kept home }) at e

-- the text differs from what is listed
abbrev pub DiffersSo : List ℕ → Home → Stamp → ShelfErr → Type 0
DiffersSo text home listed OutOfMemory = ⊥
DiffersSo text home listed Fault = ⊥
DiffersSo text home listed (Damaged damage) = (damage.home ≡ home) × (damage.listed ≡ listed) × IsFound listed (stored text) damage.found

-- what is said to be found: nothing where there is no digest, else the listed size with the digest, which is another
abbrev pub IsOther : Stamp → Option Digest → Option Stamp → Type 0
IsOther listed None found = found ≡ None
IsOther listed (Some digest) found = (found ≡ Some (record { size = listed.size; digest = digest })) × (digest ≢ listed.digest)

-- so does the digest of a file of the listed size, or there is none
abbrev pub DigestDiffersSo : Option Digest → Home → Stamp → ShelfErr → Type 0
DigestDiffersSo digest home listed OutOfMemory = ⊥
DigestDiffersSo digest home listed Fault = ⊥
DigestDiffersSo digest home listed (Damaged damage) = (damage.home ≡ home) × (damage.listed ≡ listed) × IsOther listed digest damage.found
