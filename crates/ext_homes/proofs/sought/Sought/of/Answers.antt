use Rattle.std.proofs.Common.{subst}
use Rattle.ext_homes.specs.Sought.{AreSought}
use Rattle.ext_homes.proofs.SoughtLemmas.{entries_grow}
use Rattle.ext_homes.proofs.sought.Sought.of.Goals as goal

pub returns-clause-root : goal.returns-clause-root
returns-clause-root c = entries_grow c.mark_pairs.new.sought c.mark_pairs-2.new.sought c.args.root.now c.mark_pairs-2.ensures.grows (subst (AreSought c.mark_pairs.new.sought) c.pairs.ensures.same c.mark_pairs.ensures.marked)
