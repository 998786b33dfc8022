use Rattle.ext_gen.proofs.OpeningLemmas.{index_says}
use Rattle.ext_gen.proofs.opening.read_generation.Goals as goal

pub returns-clause-says : goal.returns-clause-says
returns-clause-says g c = index_says (g.D.Disk.state c.args.disk.now) _ c.args.generation c.in_ok-found.found c.generation_found.result c.in_ok-path.ensures c.in_ok-found.ensures.found c.generation_found.ensures
