use Rattle.std.proofs.Common.{arith, sym}
use Rattle.ext_homes.proofs.SoughtLemmas.{sought_next}
use Rattle.ext_homes.proofs.sought.mark_pairs.Goals as goal

pub loop-pair-preserved : goal.loop-pair-preserved
loop-pair-preserved c = (sought_next c.loop-pair.sought c.mark_entry.new.sought c.args.pairs.now c.loop-pair.pair-index c.pair-item.result (sym c.pair-item.is) (omega arith) c.mark_entry.ensures.grows c.loop-pair.invariant.0 c.mark_entry.ensures.marked, λ stamp is. c.mark_entry.ensures.grows stamp (c.loop-pair.invariant.1 stamp is))
