use Rattle.ext_pattern.proofs.NameLemmas.{filled_name}
use Rattle.ext_pattern.proofs.OnceLemmas.{matched_filled}
use Rattle.ext_pattern.proofs.laws.names_are_filled_patterns.Goals as goal

pub returns-clause-name : goal.returns-clause-name
returns-clause-name c = filled_name

pub returns-clause-filled : goal.returns-clause-filled
returns-clause-filled c = matched_filled
