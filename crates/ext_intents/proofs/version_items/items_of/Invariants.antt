use Rattle.std.proofs.Common.{◌≡◌, ◌++◌}
use Rattle.std.specs.Prelude.{map}
use Rattle.ext_intents.specs.Updates.{version_item}
use Rattle.ext_intents.proofs.version_items.items_of.Given as goal

abbrev pub invariant-loop-version : goal.invariant-loop-version
invariant-loop-version l = (l.yielded ++ l.version-iterator.rest.items ≡ l.fn.versions) × (l.items.items ≡ map (version_item l.fn.updates) l.yielded)
