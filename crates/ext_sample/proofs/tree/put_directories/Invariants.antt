use Rattle.std.proofs.Common.{◌≡◌, ℕ, ◌+◌, ◌*◌, ◌≤◌, cond, List, length, take, Some}
use Rattle.ext_attributes.specs.Attributes.{of_mode}
use Rattle.ext_tree.specs.declared.entry.Entry.TheVariants.{Dir}
use Rattle.ext_sample.specs.Made.{has_made}
use Rattle.ext_sample.specs.Making.{entry_at}
use Rattle.ext_sample.proofs.tree.put_directories.Given as goal

abbrev pub invariant-files : goal.invariant-files
invariant-files l = record {
  each : (q : List (List ℕ)) → entry_at l.entries.entries q ≡ cond (has_made (take l.path-index l.files) q) (Some (Dir (of_mode 493))) (entry_at l.fn.entries.entries q);
  count : length l.entries.entries ≤ length l.fn.entries.entries + 5 * l.path-index;
}
