use Rattle.ext_feature.proofs.LawsLemmas.{one_active}
use Rattle.ext_feature.proofs.laws.a_component_has_its_transfers_or_a_first_fault.Goals as goal

pub returns : goal.returns
returns c = one_active (record {
  one_release = c.a_file_has_one_release.ensures;
  not_both = c.a_file_has_a_release_or_a_faulty_line.ensures.not_both;
  one_fault = c.a_file_has_a_release_or_a_faulty_line.ensures.one_fault;
})
