use Rattle.std.proofs.Common.{◌≡◌, ◌+◌, length, drop}
use Rattle.ext_pattern.specs.Part.{most_of_parts}
use Rattle.ext_pattern.proofs.part.is_short.Given as goal

abbrev pub invariant-loop-part : goal.invariant-loop-part
invariant-loop-part l = l.most + most_of_parts (drop l.part-index l.parts) ≡ length l.first + most_of_parts l.parts
