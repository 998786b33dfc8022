use Rattle.std.proofs.Common.{◌≡◌, ◌++◌}
use Rattle.std.specs.Prelude.{map}
use Rattle.ext_intents.specs.Views.{listed_item}
use Rattle.ext_intents.proofs.view_items.listed_items.Given as goal

abbrev pub invariant-loop-item : goal.invariant-loop-item
invariant-loop-item l = (l.yielded ++ l.item-iterator.rest.items ≡ l.fn.survey) × (l.items.items ≡ map listed_item l.yielded)
