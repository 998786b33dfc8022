use Rattle.ext_index_reader.specs.declared.state.Stage.TheVariants as stages
use Rattle.std.proofs.Common.{None}
use Rattle.ext_index_reader.proofs.StepLemmas.{at_stage, at_stage_ok}
use Rattle.ext_index_reader.proofs.step.step.Goals as goal

pub returns-in-Header : goal.returns-in-Header
returns-in-Header c = at_stage c.args.generation c.args.so_far.now c.header_line.new.so_far c.args.stage _ c.args.line.now c.header_line.result c.in-Header.is (c.header_line.ensures c.args.generation)

pub returns-in-Machine : goal.returns-in-Machine
returns-in-Machine c = at_stage_ok c.args.generation c.args.so_far.now c.machine_line.new.so_far c.args.stage _ c.args.line.now c.machine_line.result c.in-Machine.is (c.machine_line.ensures c.args.generation)

pub returns-in-Hierarchies : goal.returns-in-Hierarchies
returns-in-Hierarchies c = at_stage c.args.generation c.args.so_far.now c.args.so_far.now c.args.stage _ c.args.line.now c.hierarchies_line.result c.in-Hierarchies.is (c.hierarchies_line.ensures c.args.generation c.args.so_far.now)

pub returns-in-Hierarchy : goal.returns-in-Hierarchy
returns-in-Hierarchy c = at_stage_ok c.args.generation c.args.so_far.now c.hierarchy_line.new.so_far c.args.stage _ c.args.line.now c.hierarchy_line.result c.in-Hierarchy.is (c.hierarchy_line.ensures c.args.generation)

pub returns-in-Part : goal.returns-in-Part
returns-in-Part c = at_stage_ok c.args.generation c.args.so_far.now c.part_step.new.so_far c.args.stage _ c.args.line.now c.part_step.result c.in-Part.is c.part_step.ensures

pub returns-in-Past : goal.returns-in-Past
returns-in-Past c = at_stage c.args.generation c.args.so_far.now c.args.so_far.now c.args.stage _ c.args.line.now c.past_line.result c.in-Past.is (c.past_line.ensures c.args.generation c.args.so_far.now)

pub returns-in-Generation : goal.returns-in-Generation
returns-in-Generation c = at_stage c.args.generation c.args.so_far.now c.generation_line.new.so_far c.args.stage _ c.args.line.now c.generation_line.result c.in-Generation.is c.generation_line.ensures

pub returns-in-End : goal.returns-in-End
returns-in-End c = at_stage c.args.generation c.args.so_far.now c.args.so_far.now c.args.stage _ c.args.line.now c.end_line.result c.in-End.is (c.end_line.ensures c.args.generation c.args.so_far.now)

pub returns-in-Done : goal.returns-in-Done
returns-in-Done c = at_stage c.args.generation c.args.so_far.now c.args.so_far.now c.args.stage stages.Done c.args.line.now None c.in-Done.is (λ t step. step)
