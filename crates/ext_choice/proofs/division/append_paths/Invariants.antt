use Rattle.std.proofs.Common.{◌≡◌, ◌++◌, map, drop}
use Rattle.ext_installed.specs.declared.instance.Instance.{Instance}
use Rattle.ext_choice.proofs.division.append_paths.Given as goal

-- the paths so far and those of the instances that are left
abbrev pub invariant-items : goal.invariant-items
invariant-items l =
    l.paths.items ++ map (λ (item : Instance). item.path) (drop l.item-index l.items)
    ≡ l.initial.paths.items ++ map (λ (item : Instance). item.path) l.items
