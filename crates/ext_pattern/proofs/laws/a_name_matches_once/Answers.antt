use Rattle.ext_pattern.proofs.OnceLemmas.{matches_once, version_matched}
use Rattle.ext_pattern.proofs.laws.a_name_matches_once.Goals as goal

pub returns-clause-once : goal.returns-clause-once
returns-clause-once c = matches_once

pub returns-clause-version : goal.returns-clause-version
returns-clause-version c = version_matched
