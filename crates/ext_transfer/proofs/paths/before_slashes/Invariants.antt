use Rattle.std.proofs.Common.{◌≡◌, length}
use Rattle.ext_transfer.specs.Paths.{before_slashes}
use Rattle.ext_transfer.proofs.paths.before_slashes.Given as goal

abbrev pub invariant-slashes : goal.invariant-slashes
invariant-slashes l = before_slashes l.rest ≡ before_slashes l.text

abbrev pub decreases-slashes : goal.decreases-slashes
decreases-slashes l = length l.rest
