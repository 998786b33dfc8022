use Rattle.std.proofs.Common.{take}
use Rattle.ext_store_files.specs.Writing.{Holds, Works, nowhere}
use Rattle.ext_publish.specs.Filling.{AreNamed}
use Rattle.ext_publish.proofs.filling.sync_parents.Given as goal

-- the names of the files so far are synced
abbrev pub invariant-entries : goal.invariant-entries
invariant-entries g l = record {
  works : Works nowhere nowhere 0 (g.O.Disk.state l.initial.out) (g.O.Disk.state l.out);
  named : Holds (AreNamed l.resource (take l.pair-index l.fn.tree)) (g.O.Disk.state l.out);
}
