use Rattle.std.proofs.Common.{◌≡◌, map, take}
use Rattle.ext_tree.specs.Part.{seen_from}
use Rattle.ext_tree.proofs.part.copies_from.Given as goal

abbrev pub invariant-loop-pair : goal.invariant-loop-pair
invariant-loop-pair g l = l.copies.items ≡ map (seen_from l.prefix) (take l.pair-index l.pairs)
