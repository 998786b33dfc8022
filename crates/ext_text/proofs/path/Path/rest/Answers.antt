use Rattle.ext_text.proofs.PathLemmas.{rest_path}
use Rattle.ext_text.proofs.path.Path.rest.Goals as goal

pub of_names-requires : goal.of_names-requires
of_names-requires c = rw (c.rest.ensures, c.names.ensures.same) (rest_path c.args.count c.args.self.now c.names.ensures.path)
