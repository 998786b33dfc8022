use Rattle.ext_tree.specs.Slices.{is_named}
use Rattle.ext_tree.proofs.SlicesLemmas.{sorted_where}
use Rattle.ext_tree.proofs.tree.Tree.named.Goals as goal

pub returns-clause-sorted : goal.returns-clause-sorted
returns-clause-sorted g c = sorted_where (is_named c.args.directory.now c.args.start.now) c.args.self.now _ c.pairs.ensures.tree.tree.sorted (rw c.pairs.ensures.same at c.named.ensures)
