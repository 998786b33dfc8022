use Rattle.ext_lines.proofs.LinesLemmas.{text_lines-split}
use Rattle.ext_lines.proofs.lines.next_text_line.Goals as goal

pub returns-in-Some : goal.returns-in-Some
returns-in-Some c = text_lines-split c.args.text.now _ _ c.in-Some.ensures
