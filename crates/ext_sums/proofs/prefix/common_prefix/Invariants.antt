use Rattle.std.proofs.Common.{take}
use Rattle.ext_sums.specs.Merging.{BeginWith}
use Rattle.ext_sums.proofs.prefix.common_prefix.Given as goal

abbrev pub invariant-loop-each : goal.invariant-loop-each
invariant-loop-each l = BeginWith l.prefix (take l.each-index l.lines)
