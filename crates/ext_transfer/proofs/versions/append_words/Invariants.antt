use Rattle.std.proofs.Common.{◌≡◌, ◌++◌, length}
use Rattle.ext_lines.specs.Words.{words_of}
use Rattle.ext_transfer.proofs.versions.append_words.Given as goal

abbrev pub invariant-words : goal.invariant-words
invariant-words l = l.fn.words ++ words_of l.text ≡ l.words ++ words_of l.rest

abbrev pub decreases-words : goal.decreases-words
decreases-words l = length l.rest
