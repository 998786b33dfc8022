use Rattle.std.proofs.Common.{length}
use Rattle.ext_sums.specs.Reading.{IsSoFar}
use Rattle.ext_sums.proofs.reading.read_lines.Given as goal

abbrev pub invariant-lines : goal.invariant-lines
invariant-lines l = IsSoFar l.bytes l.rest l.number l.lines.items

abbrev pub decreases-lines : goal.decreases-lines
decreases-lines l = length l.rest
