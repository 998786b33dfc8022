use Rattle.std.proofs.Common.{◌-◌, ◌≤◌, length}
use Rattle.ext_store_files.specs.Writing.{Works, nowhere}
use Rattle.ext_publish.proofs.folders.sync_to.Given as goal

-- only syncs so far
abbrev pub invariant-depths : goal.invariant-depths
invariant-depths g l = Works nowhere nowhere 0 (g.O.Disk.state l.initial.out) (g.O.Disk.state l.out) × (l.depth ≤ length l.folder)

abbrev pub decreases-depths : goal.decreases-depths
decreases-depths g l = length l.folder - l.depth
