use Rattle.std.proofs.Common.{◌≡◌, ◌++◌, take}
use Rattle.std.specs.List.{flat_map}
use Rattle.ext_cmd.specs.Replies.{unit_line}
use Rattle.ext_cmd.proofs.service_replies.append_units.Given as goal

abbrev pub invariant-units : goal.invariant-units
invariant-units l = l.text.items ≡ l.fn.text.items ++ flat_map unit_line (take l.unit-index l.units)
