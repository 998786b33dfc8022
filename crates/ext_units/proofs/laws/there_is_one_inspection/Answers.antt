use Rattle.ext_units.proofs.LawsLemmas.{one_inspect_law}
use Rattle.ext_units.proofs.laws.there_is_one_inspection.Goals as goal

pub returns : goal.returns
returns c = one_inspect_law c.there_is_one_image.ensures c.there_is_one_choice_of_units.ensures
