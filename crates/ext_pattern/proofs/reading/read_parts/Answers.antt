use Rattle.std.specs.Option.{option_map}
use Rattle.ext_pattern.specs.Reading.{pieces_left}
use Rattle.ext_pattern.proofs.ReadingLemmas.{fails_so, parts_may}
use Rattle.ext_pattern.proofs.reading.read_parts.Goals as goal

pub returns-in-Err-clause-gives : goal.returns-in-Err-clause-gives
returns-in-Err-clause-gives c =
    fails_so c.in-Err.fault c.pieces.parts c.as_slice.result.now c.pieces.rest c.next_piece.result.1 c.in-Some.text c.next_piece.result.0.now c.is_none.result _
    c.as_slice.ensures c.in-Some.is c.next_piece.ensures c.is_none.ensures c.in-Err.ensures c.pieces.invariant

pub returns-clause-parts : goal.returns-clause-parts
returns-clause-parts c = parts_may c.pieces.parts c.pieces.rest (pieces_left (option_map (λ t. t.now) c.args.left)) c.in_default.is c.pieces.invariant
