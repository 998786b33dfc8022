use Rattle.ext_disk.proofs.ForCallers as callers
use Rattle.ext_disk.proofs.laws.now_may_be_left.Goals as goal

pub returns : goal.returns
returns c = callers.now_may_be_left
