use Rattle.std.proofs.Common.{refl}
use Rattle.ext_host.proofs.LimitsLemmas.{at_most, too_large, too_many, within}
use Rattle.ext_host.proofs.limits.passed_limit.Goals as goal

pub returns-then-are_too_many-clause-same : goal.returns-then-are_too_many-clause-same
returns-then-are_too_many-clause-same c = too_many c.args.root.now c.args.lower.now (c.if-are_too_many.ensures.0 refl)

pub returns-then-are_too_large-clause-same : goal.returns-then-are_too_large-clause-same
returns-then-are_too_large-clause-same c =
    too_large c.args.root.now c.args.lower.now (at_most _ _ c.if-are_too_many.ensures) (c.if-are_too_large.ensures.0 refl)

pub returns-else-are_too_large-clause-same : goal.returns-else-are_too_large-clause-same
returns-else-are_too_large-clause-same c = within c.args.root.now c.args.lower.now (at_most _ _ c.if-are_too_many.ensures) (at_most _ _ c.if-are_too_large.ensures)
