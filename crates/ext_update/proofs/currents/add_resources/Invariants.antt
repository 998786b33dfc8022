use Rattle.std.proofs.Common.{◌≡◌, ℕ, drop}
use Rattle.std.specs.BTreeMap.{get}
use Rattle.std.specs.Option.{option_map, option_or}
use Rattle.std.specs.Ordering.{nat_cmp}
use Rattle.ext_update.specs.Drafts.{first_name}
use Rattle.ext_update.specs.declared.draft.Current.TheVariants.{Written}
use Rattle.ext_update.proofs.currents.add_resources.Given as goal

-- what is named so far, and else what the resources that are left give
abbrev pub invariant-resources : goal.invariant-resources
invariant-resources l =
    (place : ℕ) → option_or (get nat_cmp l.currents place) (option_map Written (first_name (drop l.resource-index l.resources) place))
    ≡ option_or (get nat_cmp l.initial.currents place) (option_map Written (first_name l.resources place))
