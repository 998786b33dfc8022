use Rattle.ext_lines.proofs.ForCallers.{first_part, one_part}
use Rattle.ext_pattern.proofs.reading.next_piece.Goals as goal

pub returns-in-None : goal.returns-in-None
returns-in-None c = one_part 64 c.args.text.now c.in-None.ensures

pub returns-in-Some : goal.returns-in-Some
returns-in-Some c = first_part 64 c.args.text.now c.in-Some.piece.now c.in-Some.after.now c.in-Some.ensures
