use Rattle.ext_tree.proofs.PrefixLemmas.{entries_have_prefixes, directories_have_prefixes}
use Rattle.ext_tree.proofs.laws.every_prefix_is_a_directory.Goals as goal

pub returns-clause-entries : goal.returns-clause-entries
returns-clause-entries g c = entries_have_prefixes

pub returns-clause-directories : goal.returns-clause-directories
returns-clause-directories g c = directories_have_prefixes
