use Rattle.std.proofs.Common.{◌∙◌, arith, codes, sym}
use Rattle.ext_index_reader.proofs.OnceLemmas.{number_same}
use Rattle.ext_index_reader.proofs.machine_lines.count_of_hierarchies.Goals as goal

pub returns-then-count-lt-FEWEST_OF_BOTH : goal.returns-then-count-lt-FEWEST_OF_BOTH
returns-then-count-lt-FEWEST_OF_BOTH c = λ n low high e.
    let found = c.in-Some.ensures in
    let same = number_same (codes "hierarchies") c.in-Some.count n (omega (arith, found.0)) (omega arith) (sym found.1 ∙ e) in
    omega arith
