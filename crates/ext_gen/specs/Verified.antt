-- The homes that a check has read, so that it reads each once. This project's own.
use Rattle.std.specs.Prelude.{◌≡◌, ℕ, if◌then◌else◌, Some}
use Rattle.std.specs.BTreeMap.{BTreeMap, get, is_at}
use Rattle.ext_disk.specs.Disk.{DiskState}
use Rattle.ext_tree.specs.declared.stamp.Stamp.{Stamp}
use Rattle.ext_host.specs.declared.body.Body.{Body}
use Rattle.ext_host.specs.declared.body.Body.TheVariants.{Here, Kept, Depot}
use Rattle.ext_store_files.specs.HeldFiles.{IsListed, path_told}
use Rattle.ext_store_files.specs.Names.{home_path}
use Rattle.ext_index_reader.specs.Homes.{home_cmp}

-- stamps by the generation and the number of a home
abbrev pub StampsByHome : Type 0
StampsByHome = BTreeMap (ℕ × ℕ) Stamp

-- what stands at each home that is noted has the stamp that is noted, where it is told
abbrev pub AreVerified : DiskState → StampsByHome → Type 0
AreVerified disk verified =
    (home : ℕ × ℕ) (stamp : Stamp) → get home_cmp verified home ≡ Some stamp → IsListed (path_told disk (home_path home.0 home.1)) stamp

-- the bytes stand at a home that is noted with this stamp
abbrev pub IsNoted : StampsByHome → Body → Stamp → Type 0
IsNoted verified (Here bytes) stamp = ⊥
IsNoted verified (Kept home) stamp = get home_cmp verified (home.generation, home.file) ≡ Some stamp
IsNoted verified (Depot path) stamp = ⊥

-- other stamps are the same
abbrev pub AreSame : StampsByHome → StampsByHome → Type 0
AreSame old new = (home : ℕ × ℕ) → get home_cmp new home ≡ get home_cmp old home

-- the home of the bytes, if they stand at one, is noted with this stamp too
abbrev pub NotesToo : StampsByHome → StampsByHome → Body → Stamp → Type 0
NotesToo old new (Here bytes) stamp = AreSame old new
NotesToo old new (Kept home) stamp =
    (other : ℕ × ℕ) → get home_cmp new other
    ≡ (if is_at (home_cmp (home.generation, home.file)) other then Some stamp else get home_cmp old other)
NotesToo old new (Depot path) stamp = AreSame old new
