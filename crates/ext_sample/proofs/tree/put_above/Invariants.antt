use Rattle.std.proofs.Common.{◌≡◌, ℕ, ◌+◌, ◌≤◌, cond, List, length, Some}
use Rattle.ext_attributes.specs.Attributes.{of_mode}
use Rattle.ext_tree.specs.declared.entry.Entry.TheVariants.{Dir}
use Rattle.ext_sample.specs.Making.{entry_at}
use Rattle.ext_sample.proofs.LookupLemmas.{above_to}
use Rattle.ext_sample.proofs.tree.put_above.Given as goal

abbrev pub invariant-above : goal.invariant-above
invariant-above l = record {
  each : (q : List (List ℕ)) → entry_at l.entries.entries q ≡ cond (above_to l.fn.path l.count q) (Some (Dir (of_mode 493))) (entry_at l.fn.entries.entries q);
  count : length l.entries.entries + 1 ≤ length l.fn.entries.entries + l.count;
  within : l.count ≤ 5;
}
