use Rattle.std.proofs.Common.{◌+◌, ◌-◌, ◌*◌, length, take}
use Rattle.ext_store_files.specs.Removal.{is_below_any, Clears}
use Rattle.ext_store_files.proofs.RemovalLemmas.{done}
use Rattle.ext_store_files.proofs.removal.+clearing.Given as goal

abbrev pub decreases-clear : goal.decreases-clear
decreases-clear g l = 3 * (65 - length l.path.now) + 2

abbrev pub decreases-clear_all : goal.decreases-clear_all
decreases-clear_all g l = 3 * (65 - length l.dir.now)

abbrev pub decreases-clear_below : goal.decreases-clear_below
decreases-clear_below g l = 3 * (65 - length l.dir.now) + 1

-- the names so far are cleared
abbrev pub invariant-clear_all-names : goal.invariant-clear_all-names
invariant-clear_all-names g l =
    Clears (is_below_any l.dir (take l.name-index l.names)) (done (Unit {0}) tt) l.initial.most l.most (g.D.Disk.state l.initial.disk) (g.D.Disk.state l.disk)
