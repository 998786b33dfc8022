-- The devices of a run, as contracts see them: what each tells, before a run or after it.
use Rattle.std.specs.Prelude.{◌≤◌, ℕ, List, Option}
use Rattle.ext_io.specs.SourceState.{SourceState}
use Rattle.ext_io.specs.SinkState.{SinkState}
use Rattle.ext_disk.specs.Disk.{DiskState}
use Rattle.ext_depot.specs.Depot.{DepotState}
use Rattle.ext_top.specs.declared.devices.Devices.{Devices}

-- what the five devices of a run tell
pub record DeviceStates : Type 0 where
  pub source : SourceState
  pub sink : SinkState
  pub disk : DiskState
  pub depot : DepotState
  pub observer : Option (List (List ℕ))

-- what these devices tell, each read as its trait says
abbrev pub states : {S K D P O : Type 0} → (S → SourceState) → (K → SinkState) → (D → DiskState) → (P → DepotState)
    → (O → Option (List (List ℕ))) → Devices S K D P O → DeviceStates
states source sink disk depot observer devices = record {
  source = source devices.source;
  sink = sink devices.sink;
  disk = disk devices.disk;
  depot = depot devices.depot;
  observer = observer devices.observer;
}

-- the two streams, which are all that a command touches that looks at no store
pub record Streams : Type 0 where
  pub source : SourceState
  pub sink : SinkState

-- these two streams
abbrev pub streams : SourceState → SinkState → Streams
streams source sink = record { source = source; sink = sink }

-- the two of a run
abbrev pub streams_of : DeviceStates → Streams
streams_of devices = streams devices.source devices.sink

-- what a run over a store touches once its source was read
pub record StoreSide : Type 0 where
  pub sink : SinkState
  pub disk : DiskState
  pub depot : DepotState
  pub observer : Option (List (List ℕ))

-- these four
abbrev pub store_side : SinkState → DiskState → DepotState → Option (List (List ℕ)) → StoreSide
store_side sink disk depot observer = record { sink = sink; disk = disk; depot = depot; observer = observer }

-- the four of a run
abbrev pub store_side_of : DeviceStates → StoreSide
store_side_of devices = store_side devices.sink devices.disk devices.depot devices.observer

-- no count of faults fell
pub record CountsOn (old new : DeviceStates) : Type 0 where
  pub source : old.source.faults ≤ new.source.faults
  pub sink : old.sink.faults ≤ new.sink.faults
  pub disk : old.disk.faults ≤ new.disk.faults
  pub depot : old.depot.faults ≤ new.depot.faults
