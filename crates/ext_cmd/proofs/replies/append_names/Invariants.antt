use Rattle.std.proofs.Common.{◌≡◌, ◌++◌, take}
use Rattle.std.specs.List.{flat_map}
use Rattle.ext_cmd.specs.Replies.{lined}
use Rattle.ext_cmd.proofs.replies.append_names.Given as goal

abbrev pub invariant-names : goal.invariant-names
invariant-names l = l.text.items ≡ l.fn.text.items ++ flat_map lined (take l.name-index l.names)
