use Rattle.std.proofs.Common.{◌≡◌, ◌++◌, drop}
use Rattle.std.specs.List.{flat_map}
use Rattle.ext_pattern.specs.Filling.{filled_part}
use Rattle.ext_pattern.proofs.filling.filled_text.Given as goal

abbrev pub invariant-loop-part : goal.invariant-loop-part
invariant-loop-part l = l.text ++ flat_map (filled_part l.version l.digits) (drop l.part-index l.parts) ≡ l.first ++ flat_map (filled_part l.version l.digits) l.parts
