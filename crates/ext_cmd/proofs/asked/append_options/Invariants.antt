use Rattle.std.proofs.Common.{◌≡◌, ◌++◌, drop}
use Rattle.ext_cmd.specs.Portable.{options_among}
use Rattle.ext_cmd.proofs.asked.append_options.Given as goal

-- the options so far and those of the rest are all
abbrev pub invariant-words : goal.invariant-words
invariant-words l = l.options ++ options_among (drop l.word-index l.words) ≡ l.initial.options ++ options_among l.words
