use Rattle.std.proofs.Common.{◌≡◌}
use Rattle.ext_update.specs.Drafts.{first_links}
use Rattle.ext_update.proofs.linking.links_of.Given as goal

-- the links of the transfers so far
abbrev pub invariant-transfers : goal.invariant-transfers
invariant-transfers l = l.links.items ≡ first_links l.transfers l.items l.resources l.version l.place-counter
