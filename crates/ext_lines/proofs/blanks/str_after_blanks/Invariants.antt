use Rattle.std.proofs.Common.{◌≡◌, length}
use denote.Text.{Utf8}
use denote.Shadow.{shadow}
use Rattle.ext_lines.specs.Blanks.{after_blanks}
use Rattle.ext_lines.proofs.blanks.str_after_blanks.Given as goal

-- what is left says the same
abbrev pub invariant-blanks : goal.invariant-blanks
invariant-blanks l = shadow (Utf8 l.rest) × (after_blanks l.rest ≡ after_blanks l.text)

abbrev pub decreases-blanks : goal.decreases-blanks
decreases-blanks l = length l.rest
