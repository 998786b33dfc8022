use Rattle.std.proofs.Common.{◌≡◌, length}
use Rattle.ext_lines.specs.Blanks.{before_blanks}
use Rattle.ext_lines.proofs.blanks.before_blanks.Given as goal

-- what is left says the same
abbrev pub invariant-blanks : goal.invariant-blanks
invariant-blanks l = before_blanks l.rest ≡ before_blanks l.bytes

abbrev pub decreases-blanks : goal.decreases-blanks
decreases-blanks l = length l.rest
