use Rattle.std.proofs.Common.{◌∙◌, sym, codes}
use Rattle.ext_tree.proofs.ForCallers.{digest_once}
use Rattle.ext_index_lines.proofs.LineLemmas.{after_once}
use Rattle.ext_index_lines.proofs.line.item_of.Goals as goal

pub returns-in-None : goal.returns-in-None
returns-in-None c = λ digest path is within e.
    let absent = rw c.in-None.is at c.in_ok-path_of.ensures in
    let found = c.in-Some-split_digest.ensures in
    absent path within.within within.non_empty (digest_once _ digest _ _ found.0 is (sym found.1 ∙ after_once (codes "m") _ _ (sym c.in-Some.ensures ∙ e))).1
