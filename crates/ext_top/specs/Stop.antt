-- Which stop of a run a fault is.
use Rattle.ext_store_files.specs.declared.fault.StoreFault.{StoreFault}
use Rattle.ext_store_files.specs.declared.fault.StoreFault.TheVariants as store_faults
use Rattle.ext_gen.specs.declared.bad_store.BadStore.TheVariants.{Damaged}
use Rattle.ext_top.specs.declared.stop.Stop.{Stop}
use Rattle.ext_top.specs.declared.stop.Stop.TheVariants.{DiskFault, DepotFault, OutOfMemory, BadStore}

-- a damaged file makes the store a bad one
abbrev pub stop_of_fault : StoreFault → Stop
stop_of_fault store_faults.OutOfMemory = OutOfMemory
stop_of_fault store_faults.DiskFault = DiskFault
stop_of_fault store_faults.DepotFault = DepotFault
stop_of_fault (store_faults.Damaged damage) = BadStore (Damaged damage)
