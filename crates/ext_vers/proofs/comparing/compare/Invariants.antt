use Rattle.std.proofs.Common.{◌≡◌, length}
use Rattle.ext_vers.specs.Version.{version_cmp}
use Rattle.ext_vers.proofs.comparing.compare.Given as goal

-- what is left of the texts decides
abbrev pub invariant-tokens : goal.invariant-tokens
invariant-tokens l = version_cmp l.left l.right ≡ version_cmp l.a l.b

abbrev pub decreases-tokens : goal.decreases-tokens
decreases-tokens l = length l.left
