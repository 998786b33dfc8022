use Rattle.ext_text.proofs.TextOrderLemmas.{texts_cmp}
use Rattle.ext_text.proofs.laws.texts_stand_in_the_order_of_paths.Goals as goal

pub returns : goal.returns
returns c = texts_cmp
