-- The numbers of the statuses, with which the process ends.
use Rattle.std.specs.Prelude.{ℕ}
use Rattle.ext_top.specs.declared.status.Status.{Status}
use Rattle.ext_top.specs.declared.status.Status.TheVariants.{Done, Refused, Usage, ReadFault, WriteFault, DiskFault, DepotFault, OutOfMemory, BadStore, Unfinished, TooLong}

-- the number that the process ends with
abbrev pub status_number : Status → ℕ
status_number Done = 0
status_number (Refused refusal) = 1
status_number (Usage place) = 2
status_number ReadFault = 3
status_number WriteFault = 4
status_number DiskFault = 5
status_number DepotFault = 6
status_number OutOfMemory = 7
status_number (BadStore why) = 8
status_number Unfinished = 9
status_number TooLong = 10
