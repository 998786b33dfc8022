use Rattle.std.proofs.Common.{◌≡◌, ◌++◌, drop}
use Rattle.std.specs.Option.{option_copied}
use Rattle.ext_choice.specs.Room.{versions_beside}
use Rattle.ext_choice.proofs.protecting.beside.Given as goal

-- the versions so far and those of the instances that are left
abbrev pub invariant-items : goal.invariant-items
invariant-items l =
    l.versions.items ++ versions_beside (option_copied l.coming) (drop l.item-index l.items) ≡ versions_beside
    (option_copied l.coming) l.items
