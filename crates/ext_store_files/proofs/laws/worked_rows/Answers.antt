use Rattle.std.proofs.Common.{refl}
use Rattle.std.specs.Fmt.{digits}
use Rattle.ext_store_files.proofs.laws.worked_rows.Goals as goal

pub returns-clause-paths : goal.returns-clause-paths
unfolding digits
returns-clause-paths c = (refl, refl, refl, refl, refl, refl, refl)

pub returns-clause-names : goal.returns-clause-names
unfolding digits
returns-clause-names c = (refl, refl, refl, refl, refl, refl, refl, refl, refl)

pub returns-clause-left_overs : goal.returns-clause-left_overs
unfolding digits
returns-clause-left_overs c = (refl, refl, refl, refl, refl, refl)
