-- Errors of a shelf, over several calls.
use Rattle.std.proofs.Common.{ℕ, ◌≤◌, inl, inr, arith}
use Rattle.ext_text.specs.Causes.{Rose}
use Rattle.ext_host.specs.Held.{HeldFile}
use Rattle.ext_host.specs.Shelf.{Told}
use Rattle.ext_host.specs.declared.shelf.ShelfErr.{ShelfErr}
use Rattle.ext_host.specs.declared.shelf.ShelfErr.TheVariants as shelf_errors
use Rattle.ext_find.specs.HostRelease.{ShelfFault}

-- what rose in a later call rose
rose_before : (old mid new : ℕ) → old ≤ mid → Rose mid new → Rose old new
rose_before old mid new le (inl less) = inl (omega arith)
rose_before old mid new le (inr last) = inr last

-- a fault of a later call is one of the whole
pub fault_of_whole : (told : Told) (old mid new : ℕ) (held : HeldFile) (e : ShelfErr) → old ≤ mid → ShelfFault mid new told held e → ShelfFault old new told held e
fault_of_whole told old mid new held shelf_errors.OutOfMemory le fault = absurd fault
fault_of_whole told old mid new held shelf_errors.Fault le fault = rose_before old mid new le fault
fault_of_whole told old mid new held (shelf_errors.Damaged damage) le fault = fault
