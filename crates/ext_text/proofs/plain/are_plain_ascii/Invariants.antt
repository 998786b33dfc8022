use Rattle.std.proofs.Common.{◌≡◌, length}
use Rattle.std.specs.List.{list_all}
use Rattle.ext_text.specs.Name.{is_plain_ascii}
use Rattle.ext_text.proofs.plain.are_plain_ascii.Given as goal

abbrev pub invariant-strides : goal.invariant-strides
invariant-strides l = list_all is_plain_ascii l.rest ≡ list_all is_plain_ascii l.bytes

abbrev pub decreases-strides : goal.decreases-strides
decreases-strides l = length l.rest
