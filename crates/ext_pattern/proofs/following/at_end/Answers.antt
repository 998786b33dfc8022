use Rattle.std.proofs.Common.{arith}
use Rattle.ext_pattern.proofs.FollowLemmas.{missed_at_end}
use Rattle.ext_pattern.proofs.following.at_end.Goals as goal

pub returns-else-from-name-clause-caught : goal.returns-else-from-name-clause-caught
returns-else-from-name-clause-caught c =
    missed_at_end c.args.name.now c.args.from c.args.so_far c.requires.start (λ same. omega (arith, same))
