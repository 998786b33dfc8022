use Rattle.std.proofs.Common.{◌≡◌, take}
use Rattle.ext_changes.specs.Told.{all_told}
use Rattle.ext_changes.proofs.owning.owned.Given as goal

abbrev pub invariant-changes : goal.invariant-changes
invariant-changes l = l.own.items ≡ all_told (take l.change-index l.changes)
