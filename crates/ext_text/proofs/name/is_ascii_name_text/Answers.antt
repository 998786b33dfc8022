use Rattle.std.proofs.Common.{◌∙◌, sym}
use Rattle.std.proofs.lemmas.Bool.{not-true}
use Rattle.ext_text.proofs.NameLemmas.{no_slash, plain_text}
use Rattle.ext_text.proofs.name.is_ascii_name_text.Goals as goal

pub returns-then-are_plain_ascii : goal.returns-then-are_plain_ascii
returns-then-are_plain_ascii c = λ none.
    plain_text c.args.bytes.now (sym c.if-are_plain_ascii.ensures) (no_slash c.args.bytes.now (sym c.contains.ensures.value ∙ not-true c.contains.result none))
