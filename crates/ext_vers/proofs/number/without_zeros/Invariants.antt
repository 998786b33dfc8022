use Rattle.std.proofs.Common.{◌≡◌, ◌==◌, length}
use Rattle.ext_vers.specs.Token.{bytes_after}
use Rattle.ext_vers.proofs.number.without_zeros.Given as goal

-- what is left has the same digits after its zeros
abbrev pub invariant-loop-rest : goal.invariant-loop-rest
invariant-loop-rest l = bytes_after (λ b. b == 48) l.rest ≡ bytes_after (λ b. b == 48) l.fn.digits

abbrev pub decreases-loop-rest : goal.decreases-loop-rest
decreases-loop-rest l = length l.rest
