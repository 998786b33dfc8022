use Rattle.std.proofs.Common.{◌≡◌, map, take}
use Rattle.ext_installed.specs.declared.instance.Instance.{Instance}
use Rattle.ext_installed.proofs.target.versions_of.Given as goal

-- the versions of the items so far
abbrev pub invariant-items : goal.invariant-items
invariant-items l = l.versions.items ≡ map (λ (item : Instance). item.version) (take l.item-index l.items)
