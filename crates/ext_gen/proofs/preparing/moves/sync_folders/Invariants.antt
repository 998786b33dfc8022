use Rattle.std.proofs.Common.{◌≡◌, ◌+◌, ◌-◌, ◌%◌, ◌≤◌}
use Rattle.ext_store_files.specs.Writing.{nowhere, Holds, Works}
use Rattle.ext_gen.specs.PreparingStages.{AreSynced}
use Rattle.ext_gen.proofs.preparing.moves.sync_folders.Given as goal

-- the names of the files so far are synced
abbrev pub invariant-folders : goal.invariant-folders
invariant-folders g l =
    Works nowhere nowhere 0 (g.D.Disk.state l.initial.disk) (g.D.Disk.state l.disk)
    × Holds (AreSynced l.generation l.file) (g.D.Disk.state l.disk)
    × (l.file % 256 ≡ 0)
    × (l.file ≤ l.files + 255)

abbrev pub decreases-folders : goal.decreases-folders
decreases-folders g l = l.files - l.file
