use Rattle.std.proofs.Common.{◌≡◌, inl, sym, subst}
use Rattle.std.proofs.lemmas.Result.{err_from_is_err_and}
use Rattle.ext_intents.specs.declared.intent.Intent.{Intent}
use Rattle.ext_top.specs.Machine.{Comes, Step}
use Rattle.ext_top.specs.Working.{FindsDamage, SeesDamage, WantsOn, WantsWithin}
use Rattle.ext_top.proofs.SeenLemmas.{applies_since, steps_told, unseen_applies, wants_of_all}
use Rattle.ext_top.proofs.WorkingLemmas.{applied_so, reading_keeps, works_not, works_through}
use Rattle.ext_top.proofs.UnfinishedLemmas.{errs_map, see_unfinished, wider_within}
use Rattle.ext_top.proofs.CurrentLemmas.{current_since, rested_current}
use Rattle.ext_top.proofs.DamagedLemmas.{carried_damage, damage_map}
use Rattle.ext_top.proofs.applying.apply.Goals as goal

pub returns-in_err-intent-clause-applies : goal.returns-in_err-intent-clause-applies
returns-in_err-intent-clause-applies g c =
    let p = err_from_is_err_and c.from_residual.result c.from_residual.ensures.1 in
    let before = g.P.Depot.state c.args.depot.now in
    rw (p.1, p.2)
    (unseen_applies (λ s. Step s before.contents c.args.command.now) c.args.opened (g.D.Disk.state c.args.disk.now) (g.D.Disk.state c.intended.new.disk) before (g.P.Depot.state c.intended.new.depot) _
    c.in_err-intent.ensures.rests.told (g.met.D.Disk.holds_a_tree c.args.disk.now) c.in_err-intent.ensures.cause)

pub returns-clause-applies : goal.returns-clause-applies
returns-clause-applies g c =
    let old = g.D.Disk.state c.args.disk.now in
    let mid = g.D.Disk.state c.intended.new.disk in
    let new = g.D.Disk.state c.carry_out.new.disk in
    let before = g.P.Depot.state c.args.depot.now in
    let between = g.P.Depot.state c.intended.new.depot in
    let intent = c.in_ok-intent.intent in
    steps_told c.args.opened before.contents between.contents c.args.command.now intent c.carry_out.result old.told new.told c.in_ok-intent.ensures.kept.contents
    (wants_of_all c.args.opened old before.contents c.args.command.now intent c.in_ok-intent.ensures.opened c.in_ok-intent.ensures.wants)
    (applies_since (λ s. Comes s between.contents intent) c.args.opened c.carry_out.result old.told mid.told new.told c.in_ok-intent.ensures.rests.told c.carry_out.ensures.applies)

pub returns-in_err-intent-clause-works : goal.returns-in_err-intent-clause-works
returns-in_err-intent-clause-works g c =
    let old = g.D.Disk.state c.args.disk.now in
    let mid = g.D.Disk.state c.intended.new.disk in
    works_not (WantsOn c.args.opened old (g.P.Depot.state c.args.depot.now).contents c.args.command.now) c.args.opened old.told mid.told (reading_keeps old mid c.in_err-intent.ensures.rests.told)

pub returns-clause-works : goal.returns-clause-works
returns-clause-works g c =
    let old = g.D.Disk.state c.args.disk.now in
    let mid = g.D.Disk.state c.intended.new.disk in
    let W = WantsOn c.args.opened old (g.P.Depot.state c.args.depot.now).contents c.args.command.now in
    works_through (λ wanted. wanted ≡ c.in_ok-intent.intent) W c.args.opened (λ intent is. subst W (sym is) c.in_ok-intent.ensures.wants) old.told mid.told (g.D.Disk.state c.carry_out.new.disk).told
    (reading_keeps old mid c.in_ok-intent.ensures.rests.told) c.carry_out.ensures.works

pub returns-clause-met : goal.returns-clause-met
returns-clause-met g c =
    let old = g.D.Disk.state c.args.disk.now in
    let mid = g.D.Disk.state c.intended.new.disk in
    applied_so c.args.opened old mid (g.D.Disk.state c.carry_out.new.disk) (g.P.Depot.state c.intended.new.depot) (g.P.Depot.state c.args.depot.now)
    (WantsOn c.args.opened old (g.P.Depot.state c.args.depot.now).contents c.args.command.now) c.in_ok-intent.intent c.carry_out.result
    (reading_keeps old mid c.in_ok-intent.ensures.rests.told) c.in_ok-intent.ensures.kept.contents c.in_ok-intent.ensures.wants c.carry_out.ensures.met c.carry_out.ensures.replies

pub returns-in_err-intent-clause-unfinished : goal.returns-in_err-intent-clause-unfinished
returns-in_err-intent-clause-unfinished g c =
    let p = err_from_is_err_and c.from_residual.result c.from_residual.ensures.1 in
    let old = g.D.Disk.state c.args.disk.now in
    let before = g.P.Depot.state c.args.depot.now in
    rw (p.1, p.2)
    (see_unfinished (WantsWithin (WantsOn c.args.opened old before.contents c.args.command.now) c.args.opened) c.args.opened old (g.D.Disk.state c.intended.new.disk) before (g.P.Depot.state c.intended.new.depot) _ c.in_err-intent.ensures.cause)

pub returns-clause-unfinished : goal.returns-clause-unfinished
returns-clause-unfinished g c =
    let W = WantsOn c.args.opened (g.D.Disk.state c.args.disk.now) (g.P.Depot.state c.args.depot.now).contents c.args.command.now in
    let One : Intent → Type 0 = λ wanted. wanted ≡ c.in_ok-intent.intent in
    errs_map (WantsWithin One c.args.opened) (WantsWithin W c.args.opened) (wider_within One W c.args.opened (λ intent is. subst W (sym is) c.in_ok-intent.ensures.wants)) c.carry_out.result c.carry_out.ensures.unfinished

pub returns-in_err-intent-clause-current : goal.returns-in_err-intent-clause-current
returns-in_err-intent-clause-current g c = rested_current _ (g.D.Disk.state c.args.disk.now).told (g.D.Disk.state c.intended.new.disk).told c.in_err-intent.ensures.rests.told

pub returns-clause-current : goal.returns-clause-current
returns-clause-current g c =
    current_since c.carry_out.result (g.D.Disk.state c.args.disk.now).told (g.D.Disk.state c.intended.new.disk).told (g.D.Disk.state c.carry_out.new.disk).told c.in_ok-intent.ensures.rests.told c.carry_out.ensures.current

pub returns-in_err-intent-clause-damaged : goal.returns-in_err-intent-clause-damaged
returns-in_err-intent-clause-damaged g c =
    let p = err_from_is_err_and c.from_residual.result c.from_residual.ensures.1 in
    rw (p.1, p.2)
    (damage_map (SeesDamage c.args.opened c.args.command.now) (FindsDamage c.args.command.now c.args.opened (g.D.Disk.state c.args.disk.now) (g.P.Depot.state c.args.depot.now)) (λ damage sees. inl sees) _ c.in_err-intent.ensures.damaged)

pub returns-clause-damaged : goal.returns-clause-damaged
returns-clause-damaged g c =
    let old = g.D.Disk.state c.args.disk.now in
    let mid = g.D.Disk.state c.intended.new.disk in
    carried_damage c.args.command.now c.args.opened old mid (g.P.Depot.state c.intended.new.depot) (g.P.Depot.state c.args.depot.now) c.in_ok-intent.intent c.carry_out.result
    (reading_keeps old mid c.in_ok-intent.ensures.rests.told) c.in_ok-intent.ensures.kept.contents c.in_ok-intent.ensures.wants c.carry_out.ensures.damaged
