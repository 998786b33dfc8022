use Rattle.std.proofs.Common.{◌≡◌, eqb, take}
use Rattle.std.specs.List.{count_by}
use Rattle.ext_text.proofs.parts.count_of_parts.Given as goal

abbrev pub invariant-bytes : goal.invariant-bytes
invariant-bytes l = l.slashes ≡ count_by (λ b. eqb b 47) (take l.byte-index l.bytes)
