use Rattle.std.proofs.Common.{drop}
use Rattle.std.specs.Option.{option_copied}
use Rattle.ext_intents.proofs.LeastLemmas.{GoesOn}
use Rattle.ext_intents.proofs.version_items.greatest_least.Given as goal

-- that so far and those of the transfers that are left are all of them
abbrev pub invariant-transfers : goal.invariant-transfers
invariant-transfers l = GoesOn l.transfers (option_copied l.greatest) (drop l.transfer-index l.transfers)
