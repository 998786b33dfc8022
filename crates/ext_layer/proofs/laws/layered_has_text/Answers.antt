use Rattle.ext_layer.proofs.LawsLemmas.{layered_has_text}
use Rattle.ext_layer.proofs.laws.layered_has_text.Goals as goal

pub returns : goal.returns
returns c = layered_has_text
