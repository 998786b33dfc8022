use Rattle.std.proofs.Common.{◌≡◌, ◌++◌, drop}
use Rattle.ext_updated.specs.Manifests.{file_items}
use Rattle.ext_updated.proofs.manifesting.append_files.Given as goal

-- the items so far and the files among the rest are all
abbrev pub invariant-pairs : goal.invariant-pairs
invariant-pairs l = l.items.items ++ file_items (drop l.path-index l.pairs) ≡ l.initial.items.items ++ file_items l.pairs
