use Rattle.ext_sums.proofs.LawsLemmas.{manifest_or_fault, no_fault_in_manifest, one_fault}
use Rattle.ext_sums.proofs.laws.a_text_has_a_manifest_or_a_faulty_line.Goals as goal

pub returns-clause-either : goal.returns-clause-either
returns-clause-either c = manifest_or_fault

pub returns-clause-not_both : goal.returns-clause-not_both
returns-clause-not_both c = no_fault_in_manifest

pub returns-clause-one_fault : goal.returns-clause-one_fault
returns-clause-one_fault c = one_fault
