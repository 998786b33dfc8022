-- What updates and making room do to the host of a state, this project's own: what they find, what they choose, and what they write
-- and remove where they want another host.
use Rattle.std.specs.Prelude.{◌≡◌, ℕ, List, Option, Some, None, Ok}
use Rattle.ext_depot.specs.Depot.{Files}
use Rattle.ext_tree.specs.Tree.{Entries}
use Rattle.ext_host.specs.Held.{HeldFile}
use Rattle.ext_host.specs.Planning.{IsBaseTree}
use Rattle.ext_host.specs.declared.host.Host.{Host}
use Rattle.ext_transfer.specs.declared.transfer.Transfer.{Transfer}
use Rattle.ext_installed.specs.Installed.{AreInstalled}
use Rattle.ext_installed.specs.declared.instance.Instances.{Instances}
use Rattle.ext_choice.specs.Vacuum.{IsDivision}
use Rattle.ext_choice.specs.declared.division.Division.{Division}
use Rattle.ext_resources.specs.Told.{TellsResources}
use Rattle.ext_resources.specs.declared.resource.Resource.{Resource}
use Rattle.ext_updated.specs.declared.piece.Piece.{Piece}
use Rattle.ext_update.specs.Stages.{Writes}
use Rattle.ext_update.specs.Update.{UpdateWants, writes_of}
use Rattle.ext_update.specs.Vacuum.{VacuumWants}
use Rattle.ext_update.specs.declared.planned.Update.TheVariants as updated
use Rattle.ext_update.specs.declared.planned.Vacuum.TheVariants as vacuumed
use Rattle.ext_update.specs.declared.updates.Updates.{Updates}
use Rattle.ext_gen.specs.Store.{State}
use Rattle.ext_intents.specs.Intents.{Seen}
use Rattle.ext_intents.specs.Updates.{AreOn, AreUpdates}
use Rattle.ext_top.specs.Machine.{seen_in}

-- these are the updates of a component, by what is seen of a state's host and what the depot has
pub record FindsUpdates (s : State) (files : Option Files) (component : Option (List ℕ)) (updates : Updates) : Type 0 where
  pub seen : Seen
  pub is_seen : seen_in s ≡ Some seen
  pub base : Entries HeldFile
  pub is_base : IsBaseTree seen.host base
  pub are : AreUpdates seen.told files seen.host base component updates

-- these transfers of a component are on, and the base of a state's host has these instances of them, by what is seen of it
pub record FindsInstances (s : State) (files : Option Files) (component : Option (List ℕ)) (transfers : List Transfer) (instances : Instances) : Type 0 where
  pub seen : Seen
  pub is_seen : seen_in s ≡ Some seen
  pub base : Entries HeldFile
  pub is_base : IsBaseTree seen.host base
  pub are_on : AreOn seen.told files seen.host base component transfers
  pub are : AreInstalled base transfers instances

-- An update, to the version that is wanted or else to the newest, that wants another host: its version, what the depot lists of that
-- for the transfers that lack it, and which instances go so that there is room.
pub record UpdatesHost (s : State) (files : Option Files) (component wanted : Option (List ℕ)) : Type 0 where
  pub updates : Updates
  pub finds : FindsUpdates s files component updates
  pub version : List ℕ
  pub next : Host
  pub wants : UpdateWants files finds.seen.host updates wanted (updated.Changes version next)
  pub resources : List Resource
  pub told : TellsResources files updates.transfers updates.offers updates.installed.items version (Ok resources)
  pub division : Division
  pub divides : IsDivision updates.transfers (Some version) updates.installed.items division

-- what it writes and removes
abbrev pub writes_in : {s : State} {files : Option Files} {component wanted : Option (List ℕ)} → UpdatesHost s files component wanted → Writes
writes_in update = writes_of update.updates update.version update.resources update.division

-- the resources that it writes, each at its path
abbrev pub pieces_in : {s : State} {files : Option Files} {component wanted : Option (List ℕ)} → UpdatesHost s files component wanted → List (Piece HeldFile)
pieces_in update = (writes_in update).resources

-- room that is made in the targets of a component's transfers, where that wants another host: which instances go
pub record MakesRoomIn (s : State) (files : Option Files) (component : Option (List ℕ)) : Type 0 where
  pub transfers : List Transfer
  pub instances : Instances
  pub finds : FindsInstances s files component transfers instances
  pub removed : List (List (List ℕ))
  pub next : Host
  pub wants : VacuumWants finds.seen.host transfers instances.items (vacuumed.Changes removed next)
  pub division : Division
  pub divides : IsDivision transfers None instances.items division
  pub all : removed ≡ division.removed
