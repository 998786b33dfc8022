use Rattle.std.proofs.Common.{◌≡◌, ◌++◌}
use Rattle.ext_sample.proofs.tree.pairs_of.Given as goal

abbrev pub invariant-entries : goal.invariant-entries
invariant-entries l = l.pairs.items ++ l.pair-iterator ≡ l.fn.entries.entries
