use Rattle.ext_text.proofs.PathLemmas.{prefix_path}
use Rattle.ext_text.proofs.path.Path.prefix.Goals as goal

pub of_names-requires : goal.of_names-requires
of_names-requires c = rw (c.prefix.ensures, c.names.ensures.same) (prefix_path c.args.count c.args.self.now c.names.ensures.path)
