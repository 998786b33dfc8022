use Rattle.std.proofs.Common.{◌≡◌, [], length}
use Rattle.ext_transfer.specs.Meaning.{letter_meaning}
use Rattle.ext_transfer.specs.Versions.{expanded_settings}
use Rattle.ext_transfer.proofs.versions.expanded_settings.Given as goal

abbrev pub invariant-settings : goal.invariant-settings
invariant-settings l = expanded_settings (letter_meaning l.specifiers) l.made l.rest ≡ expanded_settings (letter_meaning l.specifiers) [] l.settings

abbrev pub decreases-settings : goal.decreases-settings
decreases-settings l = length l.rest
