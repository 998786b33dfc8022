use Rattle.std.proofs.Common.{◌≡◌, length}
use Rattle.ext_vers.specs.Token.{bytes_after, is_separator}
use Rattle.ext_vers.proofs.token.after_separators.Given as goal

-- what is left has the same bytes after its separators
abbrev pub invariant-loop-rest : goal.invariant-loop-rest
invariant-loop-rest l = bytes_after is_separator l.rest ≡ bytes_after is_separator l.text

abbrev pub decreases-loop-rest : goal.decreases-loop-rest
decreases-loop-rest l = length l.rest
