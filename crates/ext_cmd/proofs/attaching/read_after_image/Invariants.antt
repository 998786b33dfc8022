use Rattle.std.proofs.Common.{length}
use Rattle.ext_cmd.proofs.AttachLemmas.{ReadsOnAfter}
use Rattle.ext_cmd.proofs.attaching.read_after_image.Given as goal

abbrev pub invariant-words : goal.invariant-words
invariant-words l = ReadsOnAfter l.fn.before l.fn.words l.fn.first l.options l.after l.rest l.place

abbrev pub decreases-words : goal.decreases-words
decreases-words l = length l.rest
