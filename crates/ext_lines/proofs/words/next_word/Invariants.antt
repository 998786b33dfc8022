use Rattle.std.proofs.Common.{◌≡◌, ◌≤◌, length}
use Rattle.ext_lines.specs.Words.{words_of}
use Rattle.ext_lines.proofs.words.next_word.Given as goal

-- what is left has the same words
abbrev pub invariant-pieces : goal.invariant-pieces
invariant-pieces l = record {
  same : words_of l.text ≡ words_of l.rest;
  shorter : length l.rest ≤ length l.text;
}

abbrev pub decreases-pieces : goal.decreases-pieces
decreases-pieces l = length l.rest
