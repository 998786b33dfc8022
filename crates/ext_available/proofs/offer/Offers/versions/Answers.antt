use Rattle.std.proofs.Common.{ap, ◌∙◌}
use Rattle.ext_versions.specs.Versions.{has_version}
use Rattle.ext_versions.proofs.ForCallers.{one_list}
use Rattle.ext_available.specs.Offers.{offered_versions}
use Rattle.ext_available.proofs.offer.Offers.versions.Goals as goal

pub returns : goal.returns
returns c =
    one_list c.of.result (offered_versions c.args.self.now) c.of.ensures.order c.as_slice.ensures.ascending
    (λ v. c.of.ensures.same v ∙ ap (λ vs. has_version vs v) (c.in_ok-versions.ensures ∙ ap offered_versions c.as_slice.ensures.same))
