use Rattle.std.proofs.Common.{◌<◌, length, sym, ◌∙◌}
use Rattle.ext_lines.proofs.LinesLemmas.{some_bytes, text_lines-lacks}
use Rattle.ext_lines.proofs.lines.last_text_line.Goals as goal

pub returns-else-is_empty : goal.returns-else-is_empty
returns-else-is_empty c =
    let some : 0 < length c.args.text.now = some_bytes c.args.text.now (sym c.is_empty.ensures ∙ c.if-is_empty.false) in
    (text_lines-lacks c.args.text.now c.requires some, some)
