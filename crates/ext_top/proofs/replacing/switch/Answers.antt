use Rattle.std.proofs.Common.{Ok, Err, refl, sym, ◌∙◌, subst}
use Rattle.std.proofs.lemmas.Result.{err_from_is_err_and}
use Rattle.ext_disk.specs.Disk.{BothTold}
use Rattle.ext_disk.proofs.ForCallers.{follows_then}
use Rattle.ext_host.specs.Drawn.{AreDrawnFrom, trees_of}
use Rattle.ext_homes.specs.Giving.{trees_before}
use Rattle.ext_gen.specs.Opened.{Generation}
use Rattle.ext_gen.specs.Preparing.{ArePastBefore, LimitSays, PrepareCause, coming_number, host_before, is_left, limit_of}
use Rattle.ext_gen.specs.PreparingPaths.{Cleans}
use Rattle.ext_top.specs.Applying.{AppliesTold}
use Rattle.ext_top.proofs.LineLemmas.{rose_from}
use Rattle.ext_top.specs.Machine.{Replaces}
use Rattle.ext_top.specs.declared.applied.Reply.TheVariants.{Refused}
use Rattle.ext_top.proofs.ReplacingLemmas.{CauseOf, answered_replaces, planned_brings_none, planned_is_before, planned_is_drawn, switched_applies, unprepared, unprepared_applies, unprepared_cause}
use Rattle.ext_top.proofs.PreparedLemmas.{FewStood, RefusedBy, UnpreparedDamage, Works, few_went, replaced_met, switches_told, unprepared_damage, unprepared_met, unswitched_told}
use Rattle.ext_top.proofs.UnfinishedLemmas.{UnpreparedWithin, changes_within, errs_map, unprepared_within}
use Rattle.ext_top.proofs.WorkingLemmas.{replaces_works}
use Rattle.ext_gen.specs.Committing.{SwitchesNow}
use Rattle.ext_top.proofs.CurrentLemmas.{points_through, switched_current, unswitched_current}
use Rattle.ext_top.proofs.replacing.switch.Goals as goal

pub prepare-requires-clause-drawn : goal.prepare-requires-clause-drawn
prepare-requires-clause-drawn g c =
    subst (λ o. AreDrawnFrom (trees_before (host_before o)) (trees_of c.args.next)) (sym c.as_ref.ensures.value) (planned_is_drawn c.args.opened c.args.next c.requires.planned)

pub prepare-requires-clause-kept : goal.prepare-requires-clause-kept
prepare-requires-clause-kept g c = planned_brings_none c.args.opened c.args.next c.requires.opened c.requires.planned

pub prepare-requires-clause-past : goal.prepare-requires-clause-past
prepare-requires-clause-past g c =
    subst (λ o. ArePastBefore (coming_number o) c.args.next.past) (sym c.as_ref.ensures.value) (planned_is_before c.args.opened c.args.next c.requires.opened c.requires.planned)

pub returns-in_err-commit-in-Ok : goal.returns-in_err-commit-in-Ok
returns-in_err-commit-in-Ok g c = λ answer is.
    let p = err_from_is_err_and c.from_residual.result c.from_residual.ensures.1 in
    let old = g.D.Disk.state c.args.disk.now in
    let mid = g.D.Disk.state c.prepare.new.disk in
    let new = g.D.Disk.state c.commit.new.disk in
    let depot = g.P.Depot.state c.args.depot.now in
    let changes = subst (λ o. BothTold (Works o c.args.next) old.told mid.told) c.as_ref.ensures.value c.in-Ok.ensures.changes in
    let failed = c.in_err-commit-in-Ok in
    rw (p.1, p.2) (record {
      follows = follows_then old mid new c.in-Ok.ensures.follows c.commit.ensures.follows;
      kept = c.in-Ok.ensures.kept;
      applies = answered_replaces depot.contents c.args.next _ _ c.args.opened _ old.told new.told is
          (switched_applies c.args.next c.args.reply c.args.opened c.in-Ok.prepared depot old mid new
          (Err failed.field-0.0) (rw c.as_ref.ensures.value at c.in-Ok.ensures.limit) (rw c.as_ref.ensures.value at c.in-Ok.ensures.prepared) c.in-Ok.ensures.durable
          c.commit.ensures.follows.told failed.ensures.stops);
      shown = tt;
      works = replaces_works c.args.next answer c.args.opened old.told new.told
          (switches_told c.args.opened c.args.next old.told mid.told new.told changes (subst (λ o. BothTold (FewStood o) old.told mid.told) c.as_ref.ensures.value c.in-Ok.ensures.cleans) c.commit.ensures.now);
      met = tt;
      points = tt;
      current = switched_current (Works c.args.opened c.args.next) SwitchesNow old.told mid.told new.told changes c.commit.ensures.now;
      replies = tt;
      unfinished = tt;
      damaged = tt;
      cause = rose_from old.faults mid.faults new.faults c.in-Ok.ensures.follows.count failed.ensures.cause;
    })

pub returns-in_ok-commit-in-Ok : goal.returns-in_ok-commit-in-Ok
returns-in_ok-commit-in-Ok g c = λ answer is.
    let old = g.D.Disk.state c.args.disk.now in
    let mid = g.D.Disk.state c.prepare.new.disk in
    let new = g.D.Disk.state c.commit.new.disk in
    let depot = g.P.Depot.state c.args.depot.now in
    let changes = subst (λ o. BothTold (Works o c.args.next) old.told mid.told) c.as_ref.ensures.value c.in-Ok.ensures.changes in
    let done = c.in_ok-commit-in-Ok in
    rw done.ensures.opened (record {
      follows = follows_then old mid new c.in-Ok.ensures.follows c.commit.ensures.follows;
      kept = c.in-Ok.ensures.kept;
      applies = answered_replaces depot.contents c.args.next _ _ c.args.opened _ old.told new.told is
          (switched_applies c.args.next c.args.reply c.args.opened c.in-Ok.prepared depot old mid new
          (Ok done.field-0) (rw c.as_ref.ensures.value at c.in-Ok.ensures.limit) (rw c.as_ref.ensures.value at c.in-Ok.ensures.prepared) c.in-Ok.ensures.durable
          c.commit.ensures.follows.told done.ensures.stops);
      shown = tt;
      works = replaces_works c.args.next answer c.args.opened old.told new.told (switches_told c.args.opened c.args.next old.told mid.told new.told changes (subst (λ o. BothTold (FewStood o) old.told mid.told) c.as_ref.ensures.value c.in-Ok.ensures.cleans) c.commit.ensures.now);
      met = replaced_met c.args.opened c.args.next answer c.in-Ok.prepared old mid new depot (subst (λ o. Cleans {T = Generation} (is_left o) (Ok c.in-Ok.prepared) old mid) c.as_ref.ensures.value c.in-Ok.ensures.cleans) (rw c.as_ref.ensures.value at c.in-Ok.ensures.prepared) c.commit.ensures.now;
      points = done.ensures.points;
      current = switched_current (Works c.args.opened c.args.next) SwitchesNow old.told mid.told new.told changes c.commit.ensures.now;
      replies = is;
      unfinished = tt;
      damaged = tt;
      cause = tt;
    })

pub returns-in_err-refusal_from-in-Err : goal.returns-in_err-refusal_from-in-Err
returns-in_err-refusal_from-in-Err g c = λ answer is.
    let p = err_from_is_err_and c.from_residual-in_err-refusal_from-in-Err.result c.from_residual-in_err-refusal_from-in-Err.ensures.1 in
    let old = g.D.Disk.state c.args.disk.now in
    let new = g.D.Disk.state c.prepare.new.disk in
    let depot = g.P.Depot.state c.args.depot.now in
    let after = g.P.Depot.state c.prepare.new.depot in
    let error = c.in-Err.error in
    let was = sym c.refusal_from.ensures ∙ c.in_err-refusal_from-in-Err.was in
    let changes = subst (λ o. BothTold (Works o c.args.next) old.told new.told) c.as_ref.ensures.value c.in-Err.ensures.changes in
    let cleans = subst (λ o. Cleans {T = Generation} (is_left o) (Err error) old new) c.as_ref.ensures.value c.in-Err.ensures.cleans in
    let limit = subst (λ o. LimitSays {T = Generation} (limit_of o c.args.next) (Err error)) c.as_ref.ensures.value c.in-Err.ensures.limit in
    let cause = subst (λ o. PrepareCause o c.args.next old new depot after error) c.as_ref.ensures.value c.in-Err.ensures.cause in
    rw (p.1, p.2) (record {
      follows = c.in-Err.ensures.follows;
      kept = c.in-Err.ensures.kept;
      applies = answered_replaces depot.contents c.args.next _ _ c.args.opened _ old.told new.told is
          (subst (λ r. BothTold (AppliesTold (λ s. Replaces s depot.contents c.args.next c.args.reply) c.args.opened (unprepared c.args.opened r)) old.told new.told) was
          (unprepared_applies c.args.next c.args.reply c.args.opened depot after old new error limit cause c.in-Err.ensures.durable));
      shown = tt;
      works = replaces_works c.args.next answer c.args.opened old.told new.told
          (unswitched_told c.args.opened c.args.next old.told new.told changes (few_went c.args.opened c.args.next old new depot after error cleans cause));
      met = tt;
      points = tt;
      current = unswitched_current (Err c.in_err-refusal_from-in-Err.field-0.0) c.args.opened c.args.next old.told new.told changes;
      replies = tt;
      unfinished = errs_map _ _ (changes_within c.args.next answer c.args.opened) (Err _) (subst (UnpreparedWithin c.args.opened c.args.next) was (unprepared_within c.args.opened c.args.next error limit));
      damaged = subst (UnpreparedDamage c.args.opened c.args.next old depot) was (unprepared_damage c.args.opened c.args.next old new depot after error limit cleans cause);
      cause = subst (CauseOf c.args.opened old new depot after) was (unprepared_cause c.args.opened c.args.next old new depot after error cleans cause);
    })

pub returns-in_ok-refusal_from-in-Err : goal.returns-in_ok-refusal_from-in-Err
returns-in_ok-refusal_from-in-Err g c = λ answer is.
    let old = g.D.Disk.state c.args.disk.now in
    let new = g.D.Disk.state c.prepare.new.disk in
    let depot = g.P.Depot.state c.args.depot.now in
    let after = g.P.Depot.state c.prepare.new.depot in
    let error = c.in-Err.error in
    let refusal = c.in_ok-refusal_from-in-Err.field-0 in
    let was = sym c.refusal_from.ensures ∙ c.in_ok-refusal_from-in-Err.was in
    let changes = subst (λ o. BothTold (Works o c.args.next) old.told new.told) c.as_ref.ensures.value c.in-Err.ensures.changes in
    let cleans = subst (λ o. Cleans {T = Generation} (is_left o) (Err error) old new) c.as_ref.ensures.value c.in-Err.ensures.cleans in
    let limit = subst (λ o. LimitSays {T = Generation} (limit_of o c.args.next) (Err error)) c.as_ref.ensures.value c.in-Err.ensures.limit in
    let cause = subst (λ o. PrepareCause o c.args.next old new depot after error) c.as_ref.ensures.value c.in-Err.ensures.cause in
    record {
      follows = c.in-Err.ensures.follows;
      kept = c.in-Err.ensures.kept;
      applies = answered_replaces depot.contents c.args.next _ _ c.args.opened _ old.told new.told is
          (subst (λ r. BothTold (AppliesTold (λ s. Replaces s depot.contents c.args.next c.args.reply) c.args.opened (unprepared c.args.opened r)) old.told new.told) was
          (unprepared_applies c.args.next c.args.reply c.args.opened depot after old new error limit cause c.in-Err.ensures.durable));
      shown = tt;
      works = replaces_works c.args.next answer c.args.opened old.told new.told
          (unswitched_told c.args.opened c.args.next old.told new.told changes (few_went c.args.opened c.args.next old new depot after error cleans cause));
      met = (refl, subst (RefusedBy c.args.opened c.args.next old depot) was (unprepared_met c.args.opened c.args.next old new depot after error limit cleans cause));
      points = points_through c.args.opened c.args.next old.told new.told changes c.requires.points;
      current = unswitched_current (Ok (record { opened = c.args.opened; reply = Refused refusal })) c.args.opened c.args.next old.told new.told changes;
      replies = tt;
      unfinished = tt;
      damaged = tt;
      cause = tt;
    }
