-- The faults of a transfer file, of which the first is told. That each is told with the line of its assignment, and that an
-- absent key has line 0, is this project's own.
use Rattle.std.specs.Prelude.{◌≡◌, ℕ, Option, Result, Ok, Err}
use Rattle.std.specs.Option.{ok_or}
use Rattle.ext_transfer.specs.declared.err.TransferErr.{TransferErr}
use Rattle.ext_transfer.specs.declared.err.TransferErr.TheVariants.{OutOfMemory, BadTransfer}
use Rattle.ext_transfer.specs.declared.err.TransferFault.{TransferFault}

-- what is found, or else a fault at a line
abbrev pub or_fault : {X : Type 0} → Option X → ℕ → TransferFault → Result X TransferErr
or_fault found line why = ok_or found (BadTransfer line why)

-- what comes next where no fault was found
abbrev pub if_sound : {X Y : Type 0} → Result X TransferErr → (X → Result Y TransferErr) → Result Y TransferErr
if_sound (Err e) next = Err e
if_sound (Ok x) next = next x

-- what a call gives is what is defined; memory may run out for any file
abbrev pub GivesOrFaults : {X : Type 0} → Result X TransferErr → Result X TransferErr → Type 0
GivesOrFaults (Ok x) defined = defined ≡ Ok x
GivesOrFaults (Err OutOfMemory) defined = Unit {0}
GivesOrFaults (Err (BadTransfer line why)) defined = defined ≡ Err (BadTransfer line why)
