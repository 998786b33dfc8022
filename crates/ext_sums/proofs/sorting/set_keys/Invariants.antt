use Rattle.std.proofs.Common.{◌≡◌, ◌++◌, drop, map, take}
use Rattle.std.specs.List.{All}
use Rattle.ext_sums.specs.Sorting.{HasBytes, with_key}
use Rattle.ext_sums.proofs.sorting.set_keys.Given as goal

abbrev pub invariant-loop-each : goal.invariant-loop-each
invariant-loop-each l = record {
  keys : l.lines ≡ map (with_key l.count) (take l.each-index l.fn.lines) ++ drop l.each-index l.fn.lines;
  bytes : All (HasBytes l.count) (take l.each-index l.fn.lines);
}
