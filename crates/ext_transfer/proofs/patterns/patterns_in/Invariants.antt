use Rattle.std.proofs.Common.{◌≡◌, [], length}
use Rattle.ext_transfer.specs.Patterns.{patterns_in}
use Rattle.ext_transfer.proofs.patterns.patterns_in.Given as goal

abbrev pub invariant-settings : goal.invariant-settings
invariant-settings l = patterns_in l.why l.patterns l.rest ≡ patterns_in l.why [] l.settings

abbrev pub decreases-settings : goal.decreases-settings
decreases-settings l = length l.rest
