use Rattle.std.proofs.lemmas.Result.{IfOk-weaker}
use Rattle.ext_layer.proofs.JoiningLemmas.{joins_one_at}
use Rattle.ext_layer.proofs.joining.items_of_tree.Goals as goal

pub returns : goal.returns
returns g c = IfOk-weaker c.items_of.result _ _ (λ items is. joins_one_at c.pairs.ensures.tree c.pairs.ensures.same is) c.items_of.ensures
