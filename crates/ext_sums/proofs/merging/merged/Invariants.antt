use Rattle.std.proofs.Common.{◌≡◌, ◌++◌, length}
use Rattle.std.specs.Vec.Iter.{into_iter_items, into_iter_len}
use Rattle.ext_sums.proofs.MergingLemmas.{IsMergedSoFar}
use Rattle.ext_sums.proofs.merging.merged.Given as goal

abbrev pub invariant-loop-each : goal.invariant-loop-each
invariant-loop-each l = record {
  split : l.fn.lines.items ≡ l.yielded ++ into_iter_items l.each-iterator;
  left : into_iter_len l.each-iterator ≡ length (into_iter_items l.each-iterator);
  so_far : IsMergedSoFar l.yielded l.listed.items l.conflict;
}
