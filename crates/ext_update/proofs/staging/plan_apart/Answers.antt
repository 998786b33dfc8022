use Rattle.std.proofs.Common.{refl, sym, ◌∙◌}
use mathlib.Core.Logic.{inl, inr}
use Rattle.ext_update.specs.Stages.{FittingWants, OpenWants}
use Rattle.ext_update.specs.Steps.{draft_writes}
use Rattle.ext_update.proofs.PlanLemmas.{if_ok}
use Rattle.ext_update.proofs.StageLemmas.{least_blocks, none_blocking}
use Rattle.ext_update.proofs.staging.plan_apart.Goals as goal

pub plan_open-requires-clause-open : goal.plan_open-requires-clause-open
plan_open-requires-clause-open c =
    none_blocking c.args.host.now c.args.draft c.args.items.now c.requires.sound c.in_ok-path.ensures.tree (sym c.in_ok-path.ensures.least ∙ c.in-None.is)

pub returns-in-Some-clause-wants : goal.returns-in-Some-clause-wants
returns-in-Some-clause-wants c =
    inr (c.in-Some.path, least_blocks c.args.host.now c.args.draft c.args.items.now c.requires.sound c.in_ok-path.ensures.tree c.in-Some.path (sym c.in_ok-path.ensures.least ∙ c.in-Some.is), refl)

pub returns-in-None-clause-wants : goal.returns-in-None-clause-wants
returns-in-None-clause-wants c =
    let writes = draft_writes c.args.draft c.args.items.now in
    let none = none_blocking c.args.host.now c.args.draft c.args.items.now c.requires.sound c.in_ok-path.ensures.tree (sym c.in_ok-path.ensures.least ∙ c.in-None.is) in
    if_ok (FittingWants c.args.host.now writes) (OpenWants c.args.host.now writes) c.plan_open.result
    (λ planned wants. inl (none, wants)) c.plan_open.ensures.wants
