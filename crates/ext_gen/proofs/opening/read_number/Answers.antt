use Rattle.ext_gen.proofs.OpeningLemmas.{number_says}
use Rattle.ext_gen.proofs.opening.read_number.Goals as goal

pub returns-clause-says : goal.returns-clause-says
returns-clause-says g c = number_says (g.D.Disk.state c.args.disk.now) _ c.in_ok-found.found c.number_found.result c.in_ok-path.ensures c.in_ok-found.ensures.found c.number_found.ensures.names
