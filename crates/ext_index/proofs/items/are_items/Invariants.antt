use Rattle.std.proofs.Common.{◌≡◌, ◌++◌, take}
use Rattle.ext_index.specs.Items.{items_of}
use Rattle.ext_index.proofs.items.are_items.Given as goal

abbrev pub invariant-entries : goal.invariant-entries
invariant-entries l = l.items ≡ items_of (take l.entry-index l.entries) ++ l.rest
