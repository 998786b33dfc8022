use Rattle.std.proofs.Common.{length}
use Rattle.ext_cmd.proofs.AttachLemmas.{ReadsBefore}
use Rattle.ext_cmd.proofs.attaching.read_attach_words.Given as goal

abbrev pub invariant-words : goal.invariant-words
invariant-words l = ReadsBefore l.fn.words l.before l.rest l.place

abbrev pub decreases-words : goal.decreases-words
decreases-words l = length l.rest
