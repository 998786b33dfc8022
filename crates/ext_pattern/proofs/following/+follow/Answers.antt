use Rattle.ext_pattern.proofs.FollowLemmas.{caught_on, end_at, missed_text}
use Rattle.ext_pattern.proofs.following.+follow.Goals as goal

pub returns-in_err-caught-in-Some-clause-caught : goal.returns-in_err-caught-in-Some-clause-caught
returns-in_err-caught-in-Some-clause-caught t c =
    rw c.from_residual-in_err-caught-in-Some.ensures
    (missed_text c.in-Some.part.now c.in-Some.others.now c.args.parts.now c.args.name.now c.args.from c.in_ok-count-in-Some.count c.args.so_far c.in-Some.ensures.cases.0
    (end_at c.args.name.now c.args.from c.in_ok-count-in-Some.count c.in-Some.part.now.literal c.bytes-literal.result.now c.rest_from.result.now c.bytes-literal.ensures c.rest_from.ensures c.in_ok-count-in-Some.ensures.1)
    c.in_err-caught-in-Some.ensures.caught)

pub returns-in_ok-caught-in-Some-clause-caught : goal.returns-in_ok-caught-in-Some-clause-caught
returns-in_ok-caught-in-Some-clause-caught t c =
    caught_on c.in-Some.part.now c.in-Some.others.now c.args.parts.now c.args.name.now c.args.from c.in_ok-count-in-Some.count c.args.so_far c.in_ok-caught-in-Some.caught c.bytes-literal.result.now c.follow.result c.in-Some.ensures.cases.0 c.bytes-literal.ensures
    (end_at c.args.name.now c.args.from c.in_ok-count-in-Some.count c.in-Some.part.now.literal c.bytes-literal.result.now c.rest_from.result.now c.bytes-literal.ensures c.rest_from.ensures c.in_ok-count-in-Some.ensures.1)
    c.in_ok-caught-in-Some.ensures.caught c.follow.ensures.caught
