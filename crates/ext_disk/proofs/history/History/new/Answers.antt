use Rattle.ext_disk.proofs.HistoryLemmas.{whole_new}
use Rattle.ext_disk.proofs.history.History.new.Goals as goal

pub invariant_of-result : goal.invariant_of-result
invariant_of-result c = record { whole = whole_new c.new.result c.new-2.result.items c.new-3.result.items c.new.ensures.empty c.new-2.ensures.items c.new-3.ensures.items }
