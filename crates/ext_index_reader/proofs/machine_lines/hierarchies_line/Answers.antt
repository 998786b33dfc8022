use Rattle.ext_index_reader.proofs.machine_lines.hierarchies_line.Goals as goal

pub returns-in-None : goal.returns-in-None
returns-in-None c = λ g s t step. c.in-None.ensures step.0 step.1 step.2 step.3
