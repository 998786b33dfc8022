use Rattle.std.proofs.Common.{◌≡◌, length, take}
use Rattle.std.specs.List.{flat_map}
use Rattle.ext_index_lines.specs.Out.{at_most_64_bits}
use Rattle.ext_index.specs.Index.{manifest_lines}
use Rattle.ext_index.proofs.counting.manifests_count.Given as goal

abbrev pub invariant-manifests : goal.invariant-manifests
invariant-manifests l = l.count ≡ at_most_64_bits (length (flat_map manifest_lines (take l.manifest-index l.kept)))
