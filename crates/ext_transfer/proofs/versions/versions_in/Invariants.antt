use Rattle.std.proofs.Common.{◌≡◌, [], length}
use Rattle.ext_transfer.specs.Versions.{versions_in}
use Rattle.ext_transfer.proofs.versions.versions_in.Given as goal

abbrev pub invariant-settings : goal.invariant-settings
invariant-settings l = versions_in l.versions l.rest ≡ versions_in [] l.settings

abbrev pub decreases-settings : goal.decreases-settings
decreases-settings l = length l.rest
