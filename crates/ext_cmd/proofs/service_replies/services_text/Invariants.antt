use Rattle.std.proofs.Common.{◌≡◌, take}
use Rattle.std.specs.List.{flat_map}
use Rattle.ext_cmd.specs.Replies.{service_line}
use Rattle.ext_cmd.proofs.service_replies.services_text.Given as goal

abbrev pub invariant-items : goal.invariant-items
invariant-items l = l.text.items ≡ flat_map service_line (take l.item-index l.items)
