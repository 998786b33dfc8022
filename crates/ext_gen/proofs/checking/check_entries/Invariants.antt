use Rattle.std.proofs.Common.{take}
use Rattle.ext_disk.specs.Since.{Rests}
use Rattle.ext_gen.specs.Checking.{AreChecked, files_of}
use Rattle.ext_gen.specs.Verified.{AreVerified}
use Rattle.ext_gen.proofs.checking.check_entries.Given as goal

abbrev pub invariant-entries : goal.invariant-entries
invariant-entries g l =
    Rests (g.D.Disk.state l.fn.disk) (g.D.Disk.state l.disk) × AreChecked (g.D.Disk.state l.fn.disk) (files_of (take l.entry-index l.entries)) l.counts
    × AreVerified (g.D.Disk.state l.disk) l.verified
