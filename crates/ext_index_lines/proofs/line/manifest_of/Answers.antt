use Rattle.std.proofs.Common.{◌∙◌, sym, codes, arith}
use Rattle.ext_tree.proofs.ForCallers.{number_once}
use Rattle.ext_index_lines.proofs.LineLemmas.{after_once}
use Rattle.ext_index_lines.proofs.line.manifest_of.Goals as goal

pub returns-in-None : goal.returns-in-None
returns-in-None c = λ n path few within e.
    let absent = rw c.in-None.is at c.in_ok-path_of.ensures in
    let found = c.in-Some-split_number.ensures in
    absent path within.within within.non_empty (number_once _ n _ _ (omega (arith, found.0)) (omega arith) (sym found.1 ∙ after_once (codes "k") _ _ (sym c.in-Some.ensures ∙ e))).1
