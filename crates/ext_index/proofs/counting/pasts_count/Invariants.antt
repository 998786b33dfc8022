use Rattle.std.proofs.Common.{◌≡◌, ℕ, length, take}
use Rattle.std.specs.List.{flat_map}
use Rattle.ext_index_lines.specs.Out.{at_most_64_bits}
use Rattle.ext_index.specs.Index.{past_lines}
use Rattle.ext_index.proofs.counting.pasts_count.Given as goal

abbrev pub invariant-pasts : goal.invariant-pasts
invariant-pasts l = (g : ℕ) → l.count ≡ at_most_64_bits (length (flat_map (past_lines g) (take l.past-index l.pasts)))
