use Rattle.ext_pattern.proofs.FirstLemmas.{first_once, first_version}
use Rattle.ext_pattern.proofs.laws.one_first_match.Goals as goal

pub returns-clause-once : goal.returns-clause-once
returns-clause-once c = first_once

pub returns-clause-version : goal.returns-clause-version
returns-clause-version c = first_version
