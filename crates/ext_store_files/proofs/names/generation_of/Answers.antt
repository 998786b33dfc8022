use Rattle.ext_store_files.proofs.NamesLemmas.{answer_is}
use Rattle.ext_store_files.proofs.names.generation_of.Goals as goal

pub returns-clause-value : goal.returns-clause-value
returns-clause-value c = answer_is c.args.name.now _ c.numbered.ensures
