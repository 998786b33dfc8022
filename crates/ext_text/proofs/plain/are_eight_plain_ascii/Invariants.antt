use Rattle.std.proofs.Common.{◌≡◌, take}
use Rattle.std.specs.List.{list_all}
use Rattle.ext_text.specs.Name.{is_plain_ascii}
use Rattle.ext_text.proofs.plain.are_eight_plain_ascii.Given as goal

abbrev pub invariant-bytes : goal.invariant-bytes
invariant-bytes l = l.all ≡ list_all is_plain_ascii (take l.byte-index l.bytes)
