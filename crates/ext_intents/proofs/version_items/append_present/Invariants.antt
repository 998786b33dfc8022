use Rattle.std.proofs.Common.{◌≡◌, ◌++◌, take}
use Rattle.ext_intents.specs.Updates.{versions_of_items}
use Rattle.ext_intents.proofs.version_items.append_present.Given as goal

-- those so far stand after those that were there
abbrev pub invariant-loop-item : goal.invariant-loop-item
invariant-loop-item l = l.versions.items ≡ l.fn.versions.items ++ versions_of_items (take l.item-index l.items)
