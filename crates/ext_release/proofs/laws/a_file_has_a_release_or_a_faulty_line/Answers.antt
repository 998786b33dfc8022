use Rattle.ext_release.proofs.LawsLemmas.{no_fault_in_release, one_fault, release_or_fault}
use Rattle.ext_release.proofs.laws.a_file_has_a_release_or_a_faulty_line.Goals as goal

pub returns-clause-either : goal.returns-clause-either
returns-clause-either c = release_or_fault

pub returns-clause-not_both : goal.returns-clause-not_both
returns-clause-not_both c = no_fault_in_release

pub returns-clause-one_fault : goal.returns-clause-one_fault
returns-clause-one_fault c = one_fault
