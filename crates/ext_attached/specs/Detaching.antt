-- What detaching gives, after portablectl(1), command detach. Which refusal comes first is this project's own.
use Rattle.std.specs.Prelude.{◌≡◌, ℕ, true, false, List, Result, Ok, Err}
use Rattle.std.specs.List.{list_any}
use Rattle.ext_host.specs.ReadOnly.{is_read_only}
use Rattle.ext_host.specs.declared.host.Host.{Host}
use Rattle.ext_host.specs.declared.host.Plan.{Plan}
use Rattle.ext_attached.specs.Going.{cut_paths, detached, is_of_name}
use Rattle.ext_attached.specs.Least.{IsLeastPassing, NonePasses}
use Rattle.ext_attached.specs.declared.errors.DetachErr.{DetachErr}
use Rattle.ext_attached.specs.declared.errors.DetachErr.TheVariants as errors
use Rattle.ext_attached.specs.declared.going.By.TheVariants.{Name}

-- an attachment has this name
abbrev pub IsAttached : Host → List ℕ → Type 0
IsAttached host name = list_any (is_of_name name) host.attached ≡ true

-- the host without the attachment of this name; or the first of these: none has it, a path that it added may not be written
abbrev pub Detaches : Host → List ℕ → Result Plan DetachErr → Type 0
Detaches host name (Ok plan) =
    IsAttached host name × NonePasses (is_read_only host) (cut_paths Name name host) × (plan.next ≡ detached Name name host)
Detaches host name (Err errors.OutOfMemory) = Unit {0}
Detaches host name (Err errors.NotAttached) = list_any (is_of_name name) host.attached ≡ false
Detaches host name (Err (errors.ReadOnly path)) =
    IsAttached host name × IsLeastPassing (is_read_only host) (cut_paths Name name host) path
