use Rattle.ext_installed.proofs.ListedLemmas.{IsListed}
use Rattle.ext_installed.proofs.listing.installed.Given as goal

-- what was found of the transfers so far
abbrev pub invariant-transfers : goal.invariant-transfers
invariant-transfers g l = IsListed l.base l.transfers l.place l.items.items l.lists.items
