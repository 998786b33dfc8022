use Rattle.std.proofs.Common.{◌≡◌, length}
use Rattle.ext_lines.specs.Words.{words_of}
use Rattle.ext_transfer.specs.Patterns.{patterns_and_words}
use Rattle.ext_transfer.proofs.patterns.patterns_and_words.Given as goal

abbrev pub invariant-words : goal.invariant-words
invariant-words l = patterns_and_words l.patterns (words_of l.rest) ≡ patterns_and_words l.fn.before (words_of l.text)

abbrev pub decreases-words : goal.decreases-words
decreases-words l = length l.rest
