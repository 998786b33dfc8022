use Rattle.std.proofs.Common.{◌≡◌, take}
use Rattle.std.specs.List.{flat_map}
use Rattle.ext_intents.specs.Updates.{protected_by}
use Rattle.ext_intents.proofs.version_items.protected_versions.Given as goal

-- those that the transfers so far protect
abbrev pub invariant-loop-transfer : goal.invariant-loop-transfer
invariant-loop-transfer l = l.versions.items ≡ flat_map protected_by (take l.transfer-index l.transfers)
