use Rattle.std.proofs.Common.{◌≡◌, length}
use Rattle.ext_lines.specs.Blanks.{after_blanks}
use Rattle.ext_lines.proofs.blanks.after_blanks.Given as goal

-- what is left says the same
abbrev pub invariant-blanks : goal.invariant-blanks
invariant-blanks l = after_blanks l.rest ≡ after_blanks l.bytes

abbrev pub decreases-blanks : goal.decreases-blanks
decreases-blanks l = length l.rest
