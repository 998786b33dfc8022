use Rattle.ext_tree.specs.Slices.{is_after}
use Rattle.ext_tree.proofs.SlicesLemmas.{sorted_where}
use Rattle.ext_tree.proofs.slices.after.Goals as goal

pub returns-clause-sorted : goal.returns-clause-sorted
returns-clause-sorted g c = sorted_where (is_after c.args.names.now) c.args.entries.now _ c.requires c.rest_after.ensures
