use Rattle.std.proofs.Common.{take}
use Rattle.std.specs.List.{flat_map}
use Rattle.ext_disk.specs.Since.{Rests}
use Rattle.ext_gen.specs.Checking.{AreChecked, files_of_past}
use Rattle.ext_gen.specs.Verified.{AreVerified}
use Rattle.ext_gen.proofs.checking.check_pasts.Given as goal

abbrev pub invariant-pasts : goal.invariant-pasts
invariant-pasts g l =
    Rests (g.D.Disk.state l.fn.disk) (g.D.Disk.state l.disk) × AreChecked (g.D.Disk.state l.fn.disk) (flat_map files_of_past (take l.past-index l.pasts)) l.counts
    × AreVerified (g.D.Disk.state l.disk) l.verified
