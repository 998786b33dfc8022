use Rattle.ext_disk.proofs.ForCallers.{fixed_now, call_keeps_fixed}
use Rattle.ext_disk.proofs.laws.fixed_paths_stay.Goals as goal

pub returns-clause-durable : goal.returns-clause-durable
returns-clause-durable c = fixed_now

pub returns-clause-calls : goal.returns-clause-calls
returns-clause-calls c = call_keeps_fixed
