use Rattle.ext_units.proofs.NameLemmas.{split_part, whole_part}
use Rattle.ext_units.proofs.image_name.first_part.Goals as goal

pub returns-in-None : goal.returns-in-None
returns-in-None c = whole_part c.args.name.now c.in-None.ensures

pub returns-in-Some : goal.returns-in-Some
returns-in-Some c = split_part c.args.name.now c.in-Some.part.now c.in-Some._rest.now c.in-Some.ensures
