use Rattle.std.proofs.Common.{◌∙◌, sym}
use Rattle.ext_lines.specs.Plain.{is_plain_byte}
use Rattle.ext_lines.proofs.PlainLemmas.{no_text, some_text}
use Rattle.ext_lines.proofs.plain.plain_text.Goals as goal

pub returns-in-Ok : goal.returns-in-Ok
returns-in-Ok c = (c.in-Ok.ensures.cases.0, some_text is_plain_byte _ (sym c.are_plain.ensures ∙ c.if-not-are_plain.false) c.in-Ok.ensures.cases.1)

pub returns-in-Err : goal.returns-in-Err
returns-in-Err c = no_text is_plain_byte _ (sym c.are_plain.ensures ∙ c.if-not-are_plain.false) c.in-Err.ensures.cases.0
