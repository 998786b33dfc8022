use Rattle.std.proofs.Common.{length}
use Rattle.ext_release.specs.Reading.{IsSoFar}
use Rattle.ext_release.proofs.reading.read_release.Given as goal

abbrev pub invariant-lines : goal.invariant-lines
invariant-lines l = IsSoFar l.bytes l.rest l.number l.release

abbrev pub decreases-lines : goal.decreases-lines
decreases-lines l = length l.rest
