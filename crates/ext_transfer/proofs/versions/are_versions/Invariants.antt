use Rattle.std.proofs.Common.{◌≡◌, length}
use Rattle.std.specs.List.{list_all}
use Rattle.ext_lines.specs.Words.{words_of}
use Rattle.ext_transfer.specs.Versions.{is_version_text}
use Rattle.ext_transfer.proofs.versions.are_versions.Given as goal

abbrev pub invariant-words : goal.invariant-words
invariant-words l = list_all is_version_text (words_of l.rest) ≡ list_all is_version_text (words_of l.text)

abbrev pub decreases-words : goal.decreases-words
decreases-words l = length l.rest
