use Rattle.ext_disk.proofs.ForCallers.{call_follows}
use Rattle.ext_disk.proofs.laws.each_call_follows.Goals as goal

pub returns : goal.returns
returns c = call_follows
