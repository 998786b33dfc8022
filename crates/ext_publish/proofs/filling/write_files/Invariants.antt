use Rattle.std.proofs.Common.{take}
use Rattle.ext_publish.proofs.FilesLemmas.{IsSoFar}
use Rattle.ext_publish.proofs.filling.write_files.Given as goal

-- the files so far are written
abbrev pub invariant-entries : goal.invariant-entries
invariant-entries g l =
    IsSoFar (g.D.Disk.state l.initial.store) l.folder l.resource l.fn.tree (take l.pair-index l.fn.tree) (g.D.Disk.state l.store) (g.O.Disk.state l.initial.out) (g.O.Disk.state l.out)
