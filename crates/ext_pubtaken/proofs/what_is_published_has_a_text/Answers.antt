use Rattle.ext_pubtaken.proofs.TextLemmas.{published_has_text}
use Rattle.ext_pubtaken.proofs.what_is_published_has_a_text.Goals as goal

pub returns : goal.returns
returns c = published_has_text
