use Rattle.ext_index.specs.Sections.{listed}
use Rattle.ext_host.specs.Host.{hierarchies_in}
use Rattle.ext_index.proofs.WrongLemmas.{said_by_one}
use Rattle.ext_index.proofs.wrong.is_right.Goals as goal

pub returns : goal.returns
returns c =
    let said = said_by_one (hierarchies_in c.args.host.now) (listed c.args.sections) c.args.manifest.now c.base_around.result.now c.requires c.base_around.ensures in
    (λ yes. said.0 (c.has_items.ensures.0 yes), λ has. c.has_items.ensures.1 (said.1 has))
