use Rattle.std.proofs.lemmas.Bool.{false≢true}
use Rattle.ext_tree.proofs.SlicesLemmas.{past_root}
use Rattle.ext_tree.proofs.slices.cmp_root.Goals as goal

pub returns-else-is_root : goal.returns-else-is_root
returns-else-is_root c = past_root c.args.names.now (λ none. false≢true (c.if-is_root.ensures.1 none))
