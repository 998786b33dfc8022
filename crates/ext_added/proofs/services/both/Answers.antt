use Rattle.std.proofs.Common.{sym, subst}
use Rattle.ext_tree.specs.Tree.{IsTreeWithin}
use Rattle.ext_added.proofs.DropInLemmas.{both_tree}
use Rattle.ext_added.proofs.services.both.Goals as goal

pub from_pairs-requires : goal.from_pairs-requires
from_pairs-requires c = subst IsTreeWithin (sym c.in_ok-pairs.ensures) (both_tree c.args.profile c.args.own)
