-- What updates and making room promise, in the manual's words.
use Rattle.std.specs.Prelude.{◌≡◌, ℕ, true, false, List, ◌++◌, Contains, Option, Some, None, slice_get, Ok}
use Rattle.std.specs.List.{AllByRecursion}
use Rattle.std.specs.List.Sorted.{IsStrictlySortedBy}
use Rattle.ext_depot.specs.Depot.{Files}
use Rattle.ext_text.specs.SortedPaths.{meets}
use Rattle.ext_tree.specs.Tree.{Entries, lookup}
use Rattle.ext_vers.specs.Version.{order_of}
use Rattle.ext_host.specs.Held.{HeldFile}
use Rattle.ext_host.specs.Valid.{HasItems, IsValidHost}
use Rattle.ext_host.specs.declared.host.Host.{Host}
use Rattle.ext_host.specs.declared.manifest.Manifest.{Manifest}
use Rattle.ext_transfer.specs.declared.transfer.Transfer.{Transfer}
use Rattle.ext_versions.specs.Versions.{has_version}
use Rattle.ext_installed.specs.declared.instance.Instance.{Instance}
use Rattle.ext_choice.specs.Vacuum.{IsDivision}
use Rattle.ext_choice.specs.declared.division.Division.{Division}
use Rattle.ext_resources.specs.Told.{TellsResources}
use Rattle.ext_resources.specs.declared.resource.Resource.{Resource}
use Rattle.ext_updated.specs.Keeping.{KeepsManifests}
use Rattle.ext_updated.specs.Pieces.{piece_at}
use Rattle.ext_updated.specs.declared.piece.Piece.{Piece}
use Rattle.ext_update.specs.Stages.{IsOfResource, Writes, WritesWant, items_of, touched_by}
use Rattle.ext_update.specs.Update.{UpdateWants, writes_of}
use Rattle.ext_update.specs.Vacuum.{VacuumWants, no_writes}
use Rattle.ext_update.specs.declared.planned.Planned.TheVariants.{Next}
use Rattle.ext_update.specs.declared.planned.Update.{Update}
use Rattle.ext_update.specs.declared.planned.Update.TheVariants as updated
use Rattle.ext_update.specs.declared.planned.Vacuum.{Vacuum}
use Rattle.ext_update.specs.declared.planned.Vacuum.TheVariants as vacuumed
use Rattle.ext_update.specs.declared.updates.Updates.{Updates}

-- of ascending available versions, where the depot tells its files, an update wants one thing
abbrev pub OneUpdate : Type 0
OneUpdate =
    (files : Files) (host : Host) (updates : Updates) (wanted : Option (List ℕ)) (a b : Update)
    → IsStrictlySortedBy order_of updates.available
    → UpdateWants (Some files) host updates wanted a → UpdateWants (Some files) host updates wanted b → a ≡ b

-- making room wants one thing
abbrev pub OneVacuumPlan : Type 0
OneVacuumPlan =
    (host : Host) (transfers : List Transfer) (items : List Instance) (a b : Vacuum)
    → VacuumWants host transfers items a → VacuumWants host transfers items b → a ≡ b

-- an update that changes the host writes the resources that the depot tells of its version, and removes what has to go
abbrev pub UpdatesWrite : Type 0
UpdatesWrite =
    (files : Option Files) (host next : Host) (updates : Updates) (wanted : Option (List ℕ)) (version : List ℕ)
    → UpdateWants files host updates wanted (updated.Changes version next)
    → (resources : List Resource) × (division : Division) × TellsResources files updates.transfers updates.offers updates.installed.items version (Ok resources)
    × IsDivision updates.transfers (Some version) updates.installed.items division
    × WritesWant host (writes_of updates version resources division) (Next next)

-- making room, where it changes the host, removes what has to go, and writes nothing
abbrev pub VacuumsRemove : Type 0
VacuumsRemove =
    (host next : Host) (transfers : List Transfer) (items : List Instance) (removed : List (List (List ℕ)))
    → VacuumWants host transfers items (vacuumed.Changes removed next)
    → (division : Division) × IsDivision transfers None items division × (removed ≡ division.removed)
    × WritesWant host (no_writes division) (Next next)

-- the tree has at and below the path what it had
abbrev pub StandsAsBefore : Entries HeldFile → Entries HeldFile → List (List ℕ) → Type 0
StandsAsBefore old new path = (rest : List (List ℕ)) → lookup new (path ++ rest) ≡ lookup old (path ++ rest)

-- at and below a path that is related to nothing that is written or removed, what is seen stands as before
abbrev pub UntouchedStand : Type 0
UntouchedStand =
    (host next : Host) (writes : Writes) (path : List (List ℕ)) → WritesWant host writes (Next next)
    → meets (touched_by (items_of writes)) path ≡ false → StandsAsBefore host.root next.root path

-- nothing of the host changes but what is seen and the manifests
abbrev pub OtherPartsStay : Type 0
OtherPartsStay = (host next : Host) (writes : Writes) → WritesWant host writes (Next next) → next ≡ record host { root = next.root; kept = next.kept }

-- one of the instances of these transfers, of a version that its transfer protects
pub record IsProtected (transfers : List Transfer) (items : List Instance) (item : Instance) : Type 0 where
  pub transfer : Transfer
  pub among : Contains items item
  pub there : slice_get transfers item.transfer ≡ Some transfer
  pub protected : has_version transfer.protect item.version ≡ true

-- over an update an instance of a protected version stands as before
abbrev pub UpdatesKeepProtected : Type 0
UpdatesKeepProtected =
    (files : Option Files) (host next : Host) (updates : Updates) (wanted : Option (List ℕ)) (version : List ℕ) (item : Instance)
    → UpdateWants files host updates wanted (updated.Changes version next)
    → IsProtected updates.transfers updates.installed.items item
    → StandsAsBefore host.root next.root item.path

-- and where room is made
abbrev pub VacuumsKeepProtected : Type 0
VacuumsKeepProtected =
    (host next : Host) (transfers : List Transfer) (items : List Instance) (removed : List (List (List ℕ))) (item : Instance)
    → VacuumWants host transfers items (vacuumed.Changes removed next) → IsProtected transfers items item
    → StandsAsBefore host.root next.root item.path

-- each resource that is written stands as it was put, and leaves a manifest that says what stands there
abbrev pub ResourcesStand : Type 0
ResourcesStand =
    (host next : Host) (writes : Writes) (piece : Piece HeldFile) → WritesWant host writes (Next next) → Contains writes.resources piece
    → ((rest : List (List ℕ)) → lookup next.root (piece.path ++ rest) ≡ piece_at piece rest)
    × ((manifest : Manifest) × Contains next.kept manifest × (manifest.path ≡ piece.path) × HasItems (λ path. lookup next.root path) manifest)

-- a coming host that is valid keeps each manifest that nothing touches, and those of the resources
abbrev pub ManifestsAreKept : Type 0
ManifestsAreKept =
    (host next : Host) (writes : Writes) (added : List Manifest) → WritesWant host writes (Next next) → IsValidHost next
    → AllByRecursion (IsOfResource writes next.root) added
    → KeepsManifests host (record { next = next; touched = touched_by (items_of writes); added = added })
