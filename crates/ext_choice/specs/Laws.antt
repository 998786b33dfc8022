-- What choosing and making room promise, in the manual's words.
use Rattle.std.specs.Prelude.{◌≡◌, ℕ, ◌-◌, true, false, List, length, slice_get, Option, Some}
use Rattle.std.specs.List.{Contains}
use Rattle.std.specs.List.Sorted.{IsStrictlySortedBy}
use Rattle.std.specs.declared.cmp.Ordering.TheVariants.{Less}
use Rattle.ext_vers.specs.Version.{order_of}
use Rattle.ext_transfer.specs.declared.transfer.Transfer.{Transfer}
use Rattle.ext_versions.specs.Versions.{has_version}
use Rattle.ext_installed.specs.declared.instance.Instance.{Instance}
use Rattle.ext_choice.specs.declared.choosing.Choice.{Choice}
use Rattle.ext_choice.specs.Choice.{Chooses}
use Rattle.ext_choice.specs.Room.{HasRoom, LacksRoom, is_coming, most_beside, versions_beside}
use Rattle.ext_choice.specs.Vacuum.{Goes, IsVacuum}

-- of ascending available versions there is one choice
abbrev pub OneChoice : Type 0
OneChoice =
    (available installed : List (List ℕ)) (wanted : Option (List ℕ)) (a b : Choice)
    → IsStrictlySortedBy order_of available → Chooses available installed wanted a → Chooses available installed wanted b → a ≡ b

-- a protected version stays
abbrev pub ProtectedStay : Type 0
ProtectedStay =
    (transfer : Transfer) (coming : Option (List ℕ)) (items : List Instance) (gone : List (List ℕ)) (v : List ℕ)
    → HasRoom transfer coming items gone → has_version transfer.protect v ≡ true → has_version gone v ≡ false

-- the coming version stays
abbrev pub ComingStays : Type 0
ComingStays =
    (transfer : Transfer) (coming : Option (List ℕ)) (items : List Instance) (gone : List (List ℕ)) (v : List ℕ)
    → HasRoom transfer coming items gone → is_coming coming v ≡ true → has_version gone v ≡ false

-- an instance whose version its transfer protects stays
abbrev pub ProtectedInstancesStay : Type 0
ProtectedInstancesStay =
    (transfers : List Transfer) (coming : Option (List ℕ)) (items : List Instance) (item : Instance) (transfer : Transfer)
    → slice_get transfers item.transfer ≡ Some transfer → has_version transfer.protect item.version ≡ true
    → ¬ Goes transfers coming items item

-- an instance of the coming version stays
abbrev pub ComingInstancesStay : Type 0
ComingInstancesStay =
    (transfers : List Transfer) (coming : Option (List ℕ)) (items : List Instance) (item : Instance)
    → is_coming coming item.version ≡ true → ¬ Goes transfers coming items item

-- where a version goes, each older one goes too that has an instance, is not protected and is not the coming one
abbrev pub OldestGoFirst : Type 0
OldestGoFirst =
    (transfer : Transfer) (coming : Option (List ℕ)) (items : List Instance) (gone : List (List ℕ)) (older v : List ℕ)
    → HasRoom transfer coming items gone → has_version gone v ≡ true → order_of older v ≡ Less
    → has_version (versions_beside coming items) older ≡ true → has_version transfer.protect older ≡ false
    → has_version gone older ≡ true

-- where an instance goes, each other one of its transfer goes too whose version is older, not protected and not the coming one
abbrev pub OlderInstancesGo : Type 0
OlderInstancesGo =
    (transfers : List Transfer) (coming : Option (List ℕ)) (items : List Instance) (item older : Instance) (transfer : Transfer)
    → Goes transfers coming items item → slice_get transfers item.transfer ≡ Some transfer
    → Contains items older → older.transfer ≡ item.transfer → order_of older.version item.version ≡ Less
    → has_version transfer.protect older.version ≡ false → is_coming coming older.version ≡ false
    → Goes transfers coming items older

-- no more goes than has to: as many versions as are too many
abbrev pub NoMoreGoes : Type 0
NoMoreGoes =
    (transfer : Transfer) (coming : Option (List ℕ)) (items : List Instance) (gone : List (List ℕ))
    → (room : HasRoom transfer coming items gone)
    → length gone ≡ length room.versions - most_beside transfer coming

-- there is one list of what goes
abbrev pub OneRoom : Type 0
OneRoom =
    (transfer : Transfer) (coming : Option (List ℕ)) (items : List Instance) (a b : List (List ℕ))
    → HasRoom transfer coming items a → HasRoom transfer coming items b → a ≡ b

-- a transfer that has room lacks none
abbrev pub RoomOrNone : Type 0
RoomOrNone =
    (transfer : Transfer) (coming : Option (List ℕ)) (items : List Instance) (gone : List (List ℕ)) (count : ℕ)
    → HasRoom transfer coming items gone → ¬ LacksRoom transfer coming items count

-- there is one list of the paths that go
abbrev pub OneVacuum : Type 0
OneVacuum =
    (transfers : List Transfer) (coming : Option (List ℕ)) (items : List Instance) (a b : List (List (List ℕ)))
    → IsVacuum transfers coming items a → IsVacuum transfers coming items b → a ≡ b
