use Rattle.ext_transfer.proofs.LawsLemmas.{transfer_or_fault}
use Rattle.ext_transfer.proofs.laws.a_file_has_a_transfer_or_a_fault.Goals as goal

pub returns : goal.returns
returns c = transfer_or_fault c.the_first_refused_whole_line_is_the_fault.ensures.first c.the_first_refused_whole_line_is_the_fault.ensures.named
