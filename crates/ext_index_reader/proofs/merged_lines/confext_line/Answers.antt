use Rattle.ext_index_reader.proofs.LineLemmas.{confext_else}
use Rattle.ext_index_reader.proofs.merged_lines.confext_line.Goals as goal

pub returns-in-None : goal.returns-in-None
returns-in-None c = λ g. confext_else g c.args.so_far.now c.args.so_far.now c.args.line.now c.attached_line.result c.in-None.ensures (c.attached_line.ensures g c.args.so_far.now)
