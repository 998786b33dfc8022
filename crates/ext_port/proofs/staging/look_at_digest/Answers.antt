use Rattle.std.proofs.Common.{subst}
use Rattle.ext_text.specs.Digest.{IsDigest}
use Rattle.ext_tree.specs.declared.stamp.Stamp.{Stamp}
use Rattle.ext_port.proofs.staging.look_at_digest.Goals as goal

pub returns : goal.returns
returns c = subst (λ (s : Stamp). IsDigest s.digest.0) c.stamp.ensures.same c.bytes-digest.ensures.digest
