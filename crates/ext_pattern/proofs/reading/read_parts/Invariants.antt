use Rattle.std.proofs.Common.{◌≡◌, [], length}
use Rattle.std.specs.Option.{option_map}
use Rattle.ext_pattern.specs.Reading.{parts_of, pieces_left}
use Rattle.ext_pattern.proofs.reading.read_parts.Given as goal

-- what is left is read after the parts so far as all of it is after none
abbrev pub invariant-pieces : goal.invariant-pieces
invariant-pieces l =
    parts_of l.parts (pieces_left (option_map (λ t. t.now) l.rest)) ≡ parts_of [] (pieces_left (option_map (λ t. t.now) l.fn.left))

abbrev pub decreases-pieces : goal.decreases-pieces
decreases-pieces l = length (pieces_left (option_map (λ t. t.now) l.rest))
