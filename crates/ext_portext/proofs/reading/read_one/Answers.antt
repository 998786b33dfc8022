use Rattle.std.proofs.Common.{refl, subst}
use Rattle.ext_portext.specs.Steps.{ExtensionPlace}
use Rattle.ext_portext.proofs.reading.read_one.Goals as goal

pub returns-in-None-clause-gives : goal.returns-in-None-clause-gives
returns-in-None-clause-gives g c =
    (refl, subst (ExtensionPlace c.args.look.now.host.now c.args.look.now.base.now c.args.image.now) c.in-None.is c.in_ok-extension_at.ensures)

pub read_placed-requires-clause-placed : goal.read_placed-requires-clause-placed
read_placed-requires-clause-placed g c =
    subst (ExtensionPlace c.args.look.now.host.now c.args.look.now.base.now c.args.image.now) c.in-Some.is c.in_ok-extension_at.ensures
