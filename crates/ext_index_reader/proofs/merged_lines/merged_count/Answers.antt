use Rattle.std.proofs.Common.{◌∙◌, arith, sym}
use Rattle.ext_index_reader.proofs.OnceLemmas.{number_same}
use Rattle.ext_index_reader.proofs.merged_lines.merged_count.Goals as goal

pub returns-then-count-eq0 : goal.returns-then-count-eq0
returns-then-count-eq0 c = λ n some few e.
    let found = c.in-Some.ensures in
    let same = number_same c.args.word.now c.in-Some.count n (omega (arith, found.0)) (omega arith) (sym found.1 ∙ e) in
    omega arith
