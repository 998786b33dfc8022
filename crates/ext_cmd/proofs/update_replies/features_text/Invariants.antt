use Rattle.std.proofs.Common.{◌≡◌, take}
use Rattle.std.specs.List.{flat_map}
use Rattle.ext_cmd.specs.Replies.{feature_line}
use Rattle.ext_cmd.proofs.update_replies.features_text.Given as goal

abbrev pub invariant-items : goal.invariant-items
invariant-items l = l.text.items ≡ flat_map feature_line (take l.item-index l.items)
