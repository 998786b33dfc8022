use Rattle.std.specs.List.{slice_range}
use Rattle.ext_pattern.proofs.FollowLemmas.{caught_digest}
use Rattle.ext_pattern.proofs.following.catch.Goals as goal

pub returns-in_ok-bytes-in-Digest-clause-caught : goal.returns-in_ok-bytes-in-Digest-clause-caught
returns-in_ok-bytes-in-Digest-clause-caught c =
    caught_digest c.args.wildcard c.args.name.now (slice_range c.args.name.now c.args.span.0 c.args.span.1) c.in_ok-bytes-in-Digest.bytes c.args.so_far c.in-Digest.is c.requires.free c.in_ok-bytes-in-Digest.ensures.0 c.in_ok-bytes-in-Digest.ensures.1
