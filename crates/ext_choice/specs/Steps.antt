-- What the code finds out on the way to the paths that go.
use Rattle.std.specs.Prelude.{◌≡◌, ℕ, not, nat_le, List, map}
use Rattle.std.specs.List.{filter}
use Rattle.ext_versions.specs.Versions.{has_version}
use Rattle.ext_installed.specs.declared.instance.Instance.{Instance}
use Rattle.ext_choice.specs.declared.room_err.RoomErr.{RoomErr}
use Rattle.ext_choice.specs.declared.room_err.RoomErr.TheVariants.{OutOfMemory, NoRoom}

-- that a transfer file's versions have no room; memory may run out for its name
abbrev pub IsNoRoom : List ℕ → ℕ → RoomErr → Type 0
IsNoRoom file count OutOfMemory = Unit {0}
IsNoRoom file count (NoRoom named protected) = (named ≡ file) × (protected ≡ count)

-- the instances of the transfers after a place
abbrev pub after_transfer : ℕ → List Instance → List Instance
after_transfer place items = filter (λ (item : Instance). not (nat_le item.transfer place)) items

-- the paths of the instances whose version goes
abbrev pub gone_paths : List (List ℕ) → List Instance → List (List (List ℕ))
gone_paths gone items = map (λ (item : Instance). item.path) (filter (λ (item : Instance). has_version gone item.version) items)

-- the paths of the instances whose version stays
abbrev pub left_paths : List (List ℕ) → List Instance → List (List (List ℕ))
left_paths gone items = map (λ (item : Instance). item.path) (filter (λ (item : Instance). not (has_version gone item.version)) items)
