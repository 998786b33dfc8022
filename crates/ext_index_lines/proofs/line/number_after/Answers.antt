use Rattle.std.proofs.Common.{◌≤◌, decimal}
use Rattle.ext_index_lines.proofs.LineLemmas.{found_after_word}
use Rattle.ext_index_lines.proofs.line.number_after.Goals as goal

pub returns : goal.returns
returns c = found_after_word (λ n. n ≤ c.args.most) decimal c.read_decimal.result c.args.line.now c.args.word.now c.in_ok-rest.rest.now c.in_ok-rest.ensures c.read_decimal.ensures
