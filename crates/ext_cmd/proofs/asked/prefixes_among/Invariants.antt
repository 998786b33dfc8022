use Rattle.std.proofs.Common.{◌≡◌, ◌++◌, drop}
use Rattle.ext_cmd.specs.Portable.{prefixes_among}
use Rattle.ext_cmd.proofs.asked.prefixes_among.Given as goal

-- the prefixes so far and those of the rest are all
abbrev pub invariant-words : goal.invariant-words
invariant-words l = l.names ++ prefixes_among (drop l.word-index l.words) ≡ prefixes_among l.words
