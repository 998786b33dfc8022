use Rattle.ext_layer.proofs.LawsLemmas.{entries_are_of_layers, files_are_of_layers}
use Rattle.ext_layer.proofs.laws.entries_are_of_layers.Goals as goal

pub returns-clause-entries : goal.returns-clause-entries
returns-clause-entries g c = entries_are_of_layers

pub returns-clause-files : goal.returns-clause-files
returns-clause-files g c = files_are_of_layers
