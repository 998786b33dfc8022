-- What a store is prepared for, it may be switched to.
use Rattle.std.proofs.Common.{ℕ, List, Option, Some, None, IfSome}
use Rattle.ext_depot.specs.Depot.{DepotState}
use Rattle.ext_disk.specs.Disk.{BothTold, DiskState, Told}
use Rattle.ext_host.specs.declared.host.Host.{Host}
use Rattle.ext_gen.specs.Committing.{IsPrepared, MayCommit}
use Rattle.ext_gen.specs.Opened.{Generation}
use Rattle.ext_gen.specs.Preparing.{Prepares, PreparesTold}

may_commit_at : (from : Option Generation) (coming : Generation) (written : List (List ℕ)) (x y : Option Told) → BothTold (PreparesTold from coming written) x y → IfSome y (λ d. IsPrepared coming d.places)
may_commit_at from coming written None None told = tt
may_commit_at from coming written None (Some e) told = absurd told
may_commit_at from coming written (Some d) None told = absurd told
may_commit_at from coming written (Some d) (Some e) told = told.prepared

-- where the disk is as a preparation left it, the condition of a switch holds
pub prepared_may_commit : (from : Option Generation) (next : Host) (old new : DiskState) (depot : DepotState) (coming : Generation) → Prepares from next old new depot coming → MayCommit coming new
prepared_may_commit from next old new depot coming prepares = may_commit_at from coming prepares.written old.told new.told prepares.told
