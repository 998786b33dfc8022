-- Which versions go so that a target has room, after InstancesMax= and ProtectVersion= in sysupdate.d(5). That a version goes with
-- all its instances, and that a version that is coming doesn't count, is this project's own.
use Rattle.std.specs.Prelude.{◌≡◌, ℕ, ◌-◌, ◌<◌, ◌≤◌, Bool, false, not, List, length, map, take, Option, Some, None, Result, Ok, Err}
use Rattle.std.specs.List.{filter}
use Rattle.std.specs.Str.{bytes_eq}
use Rattle.ext_transfer.specs.declared.transfer.Transfer.{Transfer}
use Rattle.ext_versions.specs.Versions.{AreVersions, has_version}
use Rattle.ext_installed.specs.declared.instance.Instance.{Instance}
use Rattle.ext_choice.specs.declared.room_err.RoomErr.{RoomErr}
use Rattle.ext_choice.specs.declared.room_err.RoomErr.TheVariants.{OutOfMemory, NoRoom}

-- the version is the coming one
abbrev pub is_coming : Option (List ℕ) → List ℕ → Bool
is_coming None v = false
is_coming (Some coming) v = bytes_eq coming v

-- the versions of instances, in the order of the instances, without the coming one
abbrev pub versions_beside : Option (List ℕ) → List Instance → List (List ℕ)
versions_beside coming items = filter (λ v. not (is_coming coming v)) (map (λ (item : Instance). item.version) items)

-- how many versions other than the coming one a target may have
abbrev pub most_beside : Transfer → Option (List ℕ) → ℕ
most_beside transfer None = transfer.instances
most_beside transfer (Some coming) = transfer.instances - 1

-- the versions that ProtectVersion= names
abbrev pub protected_of : Transfer → List (List ℕ) → List (List ℕ)
protected_of transfer versions = filter (has_version transfer.protect) versions

-- those that it doesn't name
abbrev pub free_of : Transfer → List (List ℕ) → List (List ℕ)
free_of transfer versions = filter (λ v. not (has_version transfer.protect v)) versions

-- no more versions are protected than may stay: as many as are too many go, of those that are not protected the oldest ones
pub record HasRoom (transfer : Transfer) (coming : Option (List ℕ)) (items : List Instance) (gone : List (List ℕ)) : Type 0 where
  pub versions : List (List ℕ)
  pub all : AreVersions (versions_beside coming items) versions
  pub room : length (protected_of transfer versions) ≤ most_beside transfer coming
  pub oldest : gone ≡ take (length versions - most_beside transfer coming) (free_of transfer versions)

-- more versions are protected than may stay: this many
pub record LacksRoom (transfer : Transfer) (coming : Option (List ℕ)) (items : List Instance) (count : ℕ) : Type 0 where
  pub versions : List (List ℕ)
  pub all : AreVersions (versions_beside coming items) versions
  pub counted : count ≡ length (protected_of transfer versions)
  pub full : most_beside transfer coming < count

-- the versions that go, or that there is no room; memory may run out for any instances
abbrev pub MakesRoom : Transfer → Option (List ℕ) → List Instance → Result (List (List ℕ)) RoomErr → Type 0
MakesRoom transfer coming items (Ok gone) = HasRoom transfer coming items gone
MakesRoom transfer coming items (Err OutOfMemory) = Unit {0}
MakesRoom transfer coming items (Err (NoRoom file count)) = (file ≡ transfer.file) × LacksRoom transfer coming items count
