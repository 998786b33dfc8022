use Rattle.ext_lines.proofs.LinesLemmas.{first_line, last_line}
use Rattle.ext_lines.proofs.lines.next_line.Goals as goal

pub returns-in-None : goal.returns-in-None
returns-in-None c = last_line c.args.text.now c.in-None.ensures

pub returns-in-Some : goal.returns-in-Some
returns-in-Some c = first_line c.args.text.now _ _ c.in-Some.ensures
