use Rattle.std.proofs.Common.{sym, ap, ◌∙◌}
use mathlib.Core.Logic.{inl}
use Rattle.std.specs.List.{find}
use Rattle.ext_host.specs.ReadOnly.{is_read_only}
use Rattle.ext_update.specs.Stages.{ClashWants, WritesWant}
use Rattle.ext_update.specs.Steps.{draft_writes}
use Rattle.ext_update.proofs.PlanLemmas.{if_ok, refused_wants}
use Rattle.ext_update.proofs.StageLemmas.{least_locked, none_locked}
use Rattle.ext_update.proofs.staging.plan.Goals as goal

pub plan_unlocked-requires-clause-unlocked : goal.plan_unlocked-requires-clause-unlocked
plan_unlocked-requires-clause-unlocked c =
    none_locked c.args.host.now (draft_writes c.args.draft c.args.items.now) c.args.items.now c.requires.items c.in_ok-touched.touched c.in_ok-touched.ensures
    (ap (find (is_read_only c.args.host.now)) (sym c.as_slice.ensures.same) ∙ sym c.in-None.ensures)

pub returns-in_ok-path-in-Some-clause-wants : goal.returns-in_ok-path-in-Some-clause-wants
returns-in_ok-path-in-Some-clause-wants c =
    refused_wants c.args.host.now (draft_writes c.args.draft c.args.items.now) c.in-Some.path.now c.in_ok-path-in-Some.path c.in_ok-path-in-Some.ensures
    (least_locked c.args.host.now (draft_writes c.args.draft c.args.items.now) c.args.items.now c.requires.items c.in_ok-touched.touched c.in_ok-touched.ensures
    c.as_slice.ensures.sorted c.in-Some.path.now
    (ap (find (is_read_only c.args.host.now)) (sym c.as_slice.ensures.same) ∙ sym c.in-Some.ensures))

pub returns-in-None-clause-wants : goal.returns-in-None-clause-wants
returns-in-None-clause-wants c =
    let writes = draft_writes c.args.draft c.args.items.now in
    let none = none_locked c.args.host.now writes c.args.items.now c.requires.items c.in_ok-touched.touched c.in_ok-touched.ensures
    (ap (find (is_read_only c.args.host.now)) (sym c.as_slice.ensures.same) ∙ sym c.in-None.ensures) in
    if_ok (ClashWants c.args.host.now writes) (WritesWant c.args.host.now writes) c.plan_unlocked.result
    (λ planned wants. inl (none, wants)) c.plan_unlocked.ensures.wants
