use Rattle.std.proofs.Common.{◌≡◌, ℕ, List, length, map}
use Rattle.std.specs.List.{AllByRecursion}
use Rattle.std.specs.Option.{option_or}
use Rattle.ext_depot.specs.DepotView.{file_at}
use Rattle.ext_sample.specs.Made.{made_bytes}
use Rattle.ext_sample.specs.Making.{IsSmallFile}
use Rattle.ext_sample.specs.Sample.{in_folder}
use Rattle.ext_sample.proofs.depot.put_files.Given as goal

-- what is left would be put yet
abbrev pub invariant-files : goal.invariant-files
invariant-files l = record {
  each : (q : List (List ℕ))
      → option_or (made_bytes (map (in_folder l.folder) l.left.items) q) (file_at l.depot q) ≡ option_or (made_bytes (map (in_folder l.fn.folder) l.fn.files.items) q) (file_at l.fn.depot q);
  small : AllByRecursion IsSmallFile l.left.items;
  fails : l.depot.fails ≡ l.fn.depot.fails;
  calls : l.depot.calls ≡ l.fn.depot.calls;
  faults : l.depot.faults ≡ l.fn.depot.faults;
}

abbrev pub decreases-files : goal.decreases-files
decreases-files l = length l.left.items
