use Rattle.std.proofs.Common.{length}
use Rattle.ext_cmd.proofs.PortLemmas.{ReadsNames}
use Rattle.ext_cmd.proofs.services.read_prefixes.Given as goal

abbrev pub invariant-words : goal.invariant-words
invariant-words l = ReadsNames l.fn.words 4 l.names l.rest l.place

abbrev pub decreases-words : goal.decreases-words
decreases-words l = length l.rest
