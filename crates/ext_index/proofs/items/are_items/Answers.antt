use Rattle.std.proofs.lemmas.Bool.{false≢true}
use Rattle.ext_index.proofs.ItemsLemmas.{begins_otherwise}
use Rattle.ext_index.proofs.items.are_items.Goals as goal

pub returns-in-None : goal.returns-in-None
returns-in-None c = (
  λ no. absurd (false≢true no),
  λ is. absurd (begins_otherwise c.args.items.now c.entries.rest.now c.args.entries.now c.entries.entry-index c.entry-item.result c.entries-test.true c.entry-item.is c.entries.invariant c.in-None.ensures is),
)
