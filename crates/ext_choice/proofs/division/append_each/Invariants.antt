use Rattle.std.proofs.Common.{◌≡◌, ◌++◌, drop}
use Rattle.ext_choice.specs.Steps.{gone_paths, left_paths}
use Rattle.ext_choice.proofs.division.append_each.Given as goal

-- the paths so far and those of the instances that are left
abbrev pub invariant-items : goal.invariant-items
invariant-items l =
    (l.removed.items ++ gone_paths l.gone (drop l.item-index l.items) ≡ l.initial.removed.items ++ gone_paths l.gone l.items)
    × (l.staying.items ++ left_paths l.gone (drop l.item-index l.items) ≡ l.initial.staying.items ++ left_paths l.gone l.items)
