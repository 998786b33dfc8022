use Rattle.ext_index_reader.proofs.LineLemmas.{no_hierarchy}
use Rattle.ext_index_reader.proofs.machine_lines.hierarchy_line.Goals as goal

pub returns-in-None : goal.returns-in-None
returns-in-None c = λ g. no_hierarchy g c.args.so_far.now c.args.more c.args.line.now (rw c.in-None.is at c.in_ok-hierarchy_of.ensures)
