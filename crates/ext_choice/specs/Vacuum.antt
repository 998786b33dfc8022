-- The paths that go so that each target has room, and those that stay. That those that go stand in path order, each once, is this
-- project's own.
use Rattle.std.specs.Prelude.{◌≡◌, ◌↔◌, ℕ, ◌<◌, ◌≤◌, ◌==◌, true, List, [], ◌∷◌, slice_get, Option, Some, Result, Ok, Err}
use Rattle.std.specs.List.{Contains, filter}
use Rattle.std.specs.List.Sorted.{IsStrictlySortedBy}
use Rattle.ext_text.specs.Path.{path_cmp}
use Rattle.ext_transfer.specs.declared.transfer.Transfer.{Transfer}
use Rattle.ext_versions.specs.Versions.{has_version}
use Rattle.ext_installed.specs.declared.instance.Instance.{Instance}
use Rattle.ext_choice.specs.declared.division.Division.{Division}
use Rattle.ext_choice.specs.declared.room_err.RoomErr.{RoomErr}
use Rattle.ext_choice.specs.declared.room_err.RoomErr.TheVariants.{OutOfMemory, NoRoom}
use Rattle.ext_choice.specs.Room.{HasRoom, LacksRoom}

-- the instances stand in the order of their transfers, of which the first has this place or a later one
abbrev pub AreByTransfer : ℕ → List Instance → Type 0
AreByTransfer from [] = Unit {0}
AreByTransfer from (item ∷ items) = (from ≤ item.transfer) × AreByTransfer item.transfer items

-- the instances of the transfer at a place
abbrev pub of_transfer : ℕ → List Instance → List Instance
of_transfer place items = filter (λ (item : Instance). item.transfer == place) items

-- each transfer before a place has room
abbrev pub HaveRoom : List Transfer → Option (List ℕ) → List Instance → ℕ → Type 0
HaveRoom transfers coming items count =
    (place : ℕ) (transfer : Transfer) → place < count → slice_get transfers place ≡ Some transfer
    → (gone : List (List ℕ)) × HasRoom transfer coming (of_transfer place items) gone

-- the transfer of an instance has room, and the instance's version is one of those that go
pub record Goes (transfers : List Transfer) (coming : Option (List ℕ)) (items : List Instance) (item : Instance) : Type 0 where
  pub transfer : Transfer
  pub gone : List (List ℕ)
  pub there : slice_get transfers item.transfer ≡ Some transfer
  pub room : HasRoom transfer coming (of_transfer item.transfer items) gone
  pub among : has_version gone item.version ≡ true

-- the path of an instance that goes
pub record IsGone (transfers : List Transfer) (coming : Option (List ℕ)) (items : List Instance) (path : List (List ℕ)) : Type 0 where
  pub item : Instance
  pub among : Contains items item
  pub at : item.path ≡ path
  pub goes : Goes transfers coming items item

-- each transfer has room, and these are the paths of the instances that go, in path order and each once
pub record IsVacuum (transfers : List Transfer) (coming : Option (List ℕ)) (items : List Instance)
    (paths : List (List (List ℕ))) : Type 0 where
  pub rooms : (count : ℕ) → HaveRoom transfers coming items count
  pub order : IsStrictlySortedBy path_cmp paths
  pub gone : (path : List (List ℕ)) → Contains paths path ↔ IsGone transfers coming items path

-- the first transfer that lacks room, by its file, and how many versions it protects
pub record LacksFirst (transfers : List Transfer) (coming : Option (List ℕ)) (items : List Instance)
    (file : List ℕ) (count : ℕ) : Type 0 where
  pub place : ℕ
  pub transfer : Transfer
  pub there : slice_get transfers place ≡ Some transfer
  pub before : HaveRoom transfers coming items place
  pub named : file ≡ transfer.file
  pub lacks : LacksRoom transfer coming (of_transfer place items) count

-- the paths that go, or the first transfer that lacks room; memory may run out for any instances
abbrev pub Vacuums : List Transfer → Option (List ℕ) → List Instance → Result (List (List (List ℕ))) RoomErr → Type 0
Vacuums transfers coming items (Ok paths) = IsVacuum transfers coming items paths
Vacuums transfers coming items (Err OutOfMemory) = Unit {0}
Vacuums transfers coming items (Err (NoRoom file count)) = LacksFirst transfers coming items file count

-- the path of an instance that stays
pub record Stays (transfers : List Transfer) (coming : Option (List ℕ)) (items : List Instance) (path : List (List ℕ)) : Type 0 where
  pub item : Instance
  pub among : Contains items item
  pub at : item.path ≡ path
  pub stays : ¬ Goes transfers coming items item

-- each transfer has room; the paths that go, and those of all other instances. A path of two instances may be among both
pub record IsDivision (transfers : List Transfer) (coming : Option (List ℕ)) (items : List Instance) (division : Division) : Type 0 where
  pub vacuum : IsVacuum transfers coming items division.removed
  pub others : (path : List (List ℕ)) → Contains division.staying path ↔ Stays transfers coming items path

-- what goes and what stays, or the first transfer that lacks room; memory may run out for any instances
abbrev pub Divides : List Transfer → Option (List ℕ) → List Instance → Result Division RoomErr → Type 0
Divides transfers coming items (Ok division) = IsDivision transfers coming items division
Divides transfers coming items (Err OutOfMemory) = Unit {0}
Divides transfers coming items (Err (NoRoom file count)) = LacksFirst transfers coming items file count
