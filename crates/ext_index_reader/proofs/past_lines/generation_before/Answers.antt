use Rattle.std.proofs.Common.{◌<◌, ◌∙◌, arith, codes, subst, sym}
use Rattle.ext_index_reader.proofs.LineLemmas.{fails}
use Rattle.ext_index_reader.proofs.OnceLemmas.{number_same}
use Rattle.ext_index_reader.proofs.past_lines.generation_before.Goals as goal

pub returns-then-not-is_between : goal.returns-then-not-is_between
returns-then-not-is_between c = λ n some low e.
    let found = c.in-Some.ensures in
    let same = number_same (codes "g") n c.in-Some.past (omega arith) (omega (arith, found.0)) (sym e ∙ found.1) in
    fails _ c.is_between.result c.is_between.ensures c.if-not-is_between.true (subst (λ m. (0 < m) × (m < c.args.generation)) same (some, low))
