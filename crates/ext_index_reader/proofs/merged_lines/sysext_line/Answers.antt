use Rattle.ext_index_reader.proofs.LineLemmas.{sysext_else}
use Rattle.ext_index_reader.proofs.merged_lines.sysext_line.Goals as goal

pub returns-in-None : goal.returns-in-None
returns-in-None c = λ g. sysext_else g c.args.so_far.now c.confext_line.new.so_far c.args.line.now c.confext_line.result c.in-None.ensures (c.confext_line.ensures g)
