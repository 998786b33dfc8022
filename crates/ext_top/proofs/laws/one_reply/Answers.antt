use Rattle.ext_top.proofs.AloneLemmas.{one_reply}
use Rattle.ext_top.proofs.laws.one_reply.Goals as goal

pub returns : goal.returns
returns c = one_reply (record {
  one_list = c.one_list_of_sequence.ensures;
  no_fault = c.first_fault_of_sequence.ensures.none;
  one_fault = c.first_fault_of_sequence.ensures.one;
  one_tree = c.one_layered_tree.ensures;
})
