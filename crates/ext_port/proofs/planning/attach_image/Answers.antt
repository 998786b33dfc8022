use Rattle.std.proofs.Common.{refl}
use Rattle.ext_port.proofs.StartLemmas.{planned_itself}
use Rattle.ext_port.proofs.planning.attach_image.Goals as goal

pub attach_next-requires-else-again-clause-planned : goal.attach_next-requires-else-again-clause-planned
attach_next-requires-else-again-clause-planned g c = planned_itself c.args.host.now c.args.host.now c.requires.valid refl
