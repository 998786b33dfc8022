use Rattle.ext_port.proofs.OneAttachLemmas.{one_attach_law}
use Rattle.ext_port.proofs.laws.there_is_one_attachment.Goals as goal

pub returns : goal.returns
returns c = one_attach_law c.there_is_one_image.ensures c.there_is_one_choice_of_units.ensures
