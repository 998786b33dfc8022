use Rattle.std.proofs.Common.{◌≡◌, ◌++◌, length}
use Rattle.ext_transfer.specs.Transfer.{words_in}
use Rattle.ext_transfer.proofs.reading.words_in.Given as goal

abbrev pub invariant-settings : goal.invariant-settings
invariant-settings l = l.words ++ words_in l.rest ≡ words_in l.settings

abbrev pub decreases-settings : goal.decreases-settings
decreases-settings l = length l.rest
