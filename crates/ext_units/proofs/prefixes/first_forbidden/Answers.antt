use Rattle.ext_units.proofs.NameLemmas.{all_allowed}
use Rattle.ext_units.proofs.prefixes.first_forbidden.Goals as goal

pub returns-in-None : goal.returns-in-None
returns-in-None c = all_allowed c.args.release.now c.args.prefixes.now c.in-None.ensures
