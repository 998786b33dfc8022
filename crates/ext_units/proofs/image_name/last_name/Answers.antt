use Rattle.std.proofs.Common.{sym, ap, ◌∙◌}
use Rattle.ext_units.specs.ImageName.{last_name}
use Rattle.ext_units.proofs.NameLemmas.{last_of}
use Rattle.ext_units.proofs.image_name.last_name.Goals as goal

pub returns-in-Some : goal.returns-in-Some
returns-in-Some c = sym (ap last_name (sym c.names.ensures.same ∙ c.in-Some.ensures.0) ∙ last_of c.in-Some._above c.in-Some.name.now)
