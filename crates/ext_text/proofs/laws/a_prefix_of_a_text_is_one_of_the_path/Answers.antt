use Rattle.ext_text.proofs.TextOrderLemmas.{texts_prefix}
use Rattle.ext_text.proofs.laws.a_prefix_of_a_text_is_one_of_the_path.Goals as goal

pub returns : goal.returns
returns c = texts_prefix
