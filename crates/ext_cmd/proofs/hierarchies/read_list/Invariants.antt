use Rattle.std.proofs.Common.{length}
use Rattle.ext_cmd.proofs.HierarchyLemmas.{ReadsOn}
use Rattle.ext_cmd.proofs.hierarchies.read_list.Given as goal

abbrev pub invariant-names : goal.invariant-names
invariant-names l = ReadsOn l.word l.rest l.names

abbrev pub decreases-names : goal.decreases-names
decreases-names l = length l.rest
