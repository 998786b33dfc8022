use Rattle.std.proofs.Common.{◌≡◌, ℕ, drop}
use Rattle.std.specs.BTreeMap.{get}
use Rattle.std.specs.Option.{option_map, option_or}
use Rattle.std.specs.Ordering.{nat_cmp}
use Rattle.ext_update.specs.Writing.{first_instance}
use Rattle.ext_update.specs.declared.draft.Current.TheVariants.{Had}
use Rattle.ext_update.proofs.currents.add_instances.Given as goal

-- what is named so far, and else what the instances that are left give
abbrev pub invariant-items : goal.invariant-items
invariant-items l =
    (place : ℕ) → option_or (get nat_cmp l.currents place) (option_map Had (first_instance (drop l.item-index l.items) l.version place))
    ≡ option_or (get nat_cmp l.initial.currents place) (option_map Had (first_instance l.items l.version place))
