use Rattle.std.proofs.Common.{◌≡◌, ℕ, ◌+◌, ◌≤◌, List, length}
use Rattle.std.specs.Option.{option_map, option_or}
use Rattle.ext_sample.specs.Made.{made_bytes, made_file}
use Rattle.ext_sample.specs.Making.{entry_at}
use Rattle.ext_sample.proofs.tree.put_files.Given as goal

-- what is left would be put yet
abbrev pub invariant-files : goal.invariant-files
invariant-files l = record {
  each : (q : List (List ℕ))
      → option_or (option_map made_file (made_bytes l.left q)) (entry_at l.entries.entries q) ≡ option_or (option_map made_file (made_bytes l.fn.files q)) (entry_at l.fn.entries.entries q);
  count : length l.entries.entries + length l.left ≤ length l.fn.entries.entries + length l.fn.files;
}

abbrev pub decreases-files : goal.decreases-files
decreases-files l = length l.left
