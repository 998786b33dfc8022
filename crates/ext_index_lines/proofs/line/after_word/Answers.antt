use Rattle.ext_index_lines.proofs.LineLemmas.{found_after_prefix}
use Rattle.ext_index_lines.proofs.line.after_word.Goals as goal

pub returns : goal.returns
returns c = found_after_prefix c.after_space.result c.args.line.now c.args.word.now c.in_ok-rest.rest.now c.in_ok-rest.ensures c.after_space.ensures
