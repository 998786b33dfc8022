use Rattle.std.proofs.Common.{refl}
use Rattle.ext_port.proofs.StartLemmas.{planned_itself}
use Rattle.ext_port.proofs.attaching.attach_fit_body.Goals as goal

pub attach_next_body-requires-else-again-clause-planned : goal.attach_next_body-requires-else-again-clause-planned
attach_next_body-requires-else-again-clause-planned c = planned_itself c.args.host.now c.args.host.now c.requires.valid refl
