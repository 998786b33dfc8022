use Rattle.ext_portext.proofs.OneExtendedLemmas.{one_extended_law}
use Rattle.ext_portext.proofs.laws.there_is_one_extended_attachment.Goals as goal

pub returns : goal.returns
returns c = one_extended_law (record {
  one_found = c.there_is_one_found_list.ensures;
  one_release = c.a_file_has_one_release.ensures;
  not_both = c.a_file_has_a_release_or_a_faulty_line.ensures.not_both;
  one_fault = c.a_file_has_a_release_or_a_faulty_line.ensures.one_fault;
  one_verdict = c.one_verdict.ensures.one;
}) c.there_is_one_image.ensures c.there_is_one_choice_of_units.ensures
