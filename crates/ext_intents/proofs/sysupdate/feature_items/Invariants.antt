use Rattle.std.proofs.Common.{◌≡◌, ◌++◌}
use Rattle.std.specs.Prelude.{map}
use Rattle.ext_intents.specs.Sysupdate.{feature_item}
use Rattle.ext_intents.proofs.sysupdate.feature_items.Given as goal

abbrev pub invariant-loop-feature : goal.invariant-loop-feature
invariant-loop-feature l = (l.yielded ++ l.feature-iterator.rest.items ≡ l.fn.features) × (l.items.items ≡ map feature_item l.yielded)
