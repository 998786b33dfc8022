use Rattle.std.proofs.Common.{◌≡◌, ◌++◌}
use Rattle.std.specs.Prelude.{map}
use Rattle.ext_intents.specs.Portable.{service_item}
use Rattle.ext_intents.proofs.service_items.service_items.Given as goal

abbrev pub invariant-loop-item : goal.invariant-loop-item
invariant-loop-item l = (l.yielded ++ l.item-iterator.rest.items ≡ l.fn.found) × (l.items.items ≡ map (service_item l.attached) l.yielded)
