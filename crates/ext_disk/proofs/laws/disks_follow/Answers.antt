use Rattle.ext_disk.proofs.ForCallers.{follows_itself, follows_then}
use Rattle.ext_disk.proofs.laws.disks_follow.Goals as goal

pub returns-clause-itself : goal.returns-clause-itself
returns-clause-itself c = follows_itself

pub returns-clause-in_turn : goal.returns-clause-in_turn
returns-clause-in_turn c = follows_then
