use Rattle.std.proofs.Common.{◌≡◌, Ok, Err, refl}
use Rattle.std.proofs.lemmas.Result.{err_from_is_err_and}
use Rattle.ext_disk.proofs.ForCallers.{follows_itself, rests_follow}
use Rattle.ext_store_files.proofs.ForCallers.{kept_itself}
use Rattle.ext_top.specs.Machine.{Comes}
use Rattle.ext_top.proofs.ReadingLemmas.{answers_applied, refusal_applied, rest_is_cause, unread_applies}
use Rattle.ext_top.proofs.WorkingLemmas.{reading_keeps, works_not, works_nothing}
use Rattle.ext_top.specs.declared.applied.Reply.TheVariants.{Text, Refused}
use Rattle.ext_top.proofs.UnfinishedLemmas.{rest_unfinished}
use Rattle.ext_top.proofs.CurrentLemmas.{points_rested, rested_current}
use Rattle.ext_top.proofs.DamagedLemmas.{damages_said}
use Rattle.ext_store_files.specs.declared.fault.StoreFault.TheVariants.{OutOfMemory}
use Rattle.ext_top.specs.declared.apply_err.ApplyErr.TheVariants.{Fault}
use Rattle.ext_top.proofs.applying.carry_out.Goals as goal

pub returns-in-Changes : goal.returns-in-Changes
returns-in-Changes g c = rw c.in-Changes.is c.replace.ensures

pub returns-in_err-answer_text-in-Answers : goal.returns-in_err-answer_text-in-Answers
returns-in_err-answer_text-in-Answers g c =
    let p = err_from_is_err_and c.from_residual.result c.from_residual.ensures.1 in
    let disk = g.D.Disk.state c.args.disk.now in
    let depot = g.P.Depot.state c.args.depot.now in
    rw (p.1, p.2) (record {
      follows = follows_itself disk;
      kept = kept_itself depot;
      applies = unread_applies (λ s. Comes s depot.contents c.args.intent) c.args.opened disk disk _ refl (g.met.D.Disk.holds_a_tree c.args.disk.now) tt;
      shown = tt;
      works = works_nothing (λ wanted. wanted ≡ c.args.intent) c.args.opened disk.told;
      met = tt;
      points = tt;
      current = rested_current (Err (Fault OutOfMemory)) disk.told disk.told refl;
      replies = tt;
      unfinished = tt;
      damaged = tt;
      cause = tt;
    })

pub returns-in_ok-answer_text-in-Answers : goal.returns-in_ok-answer_text-in-Answers
returns-in_ok-answer_text-in-Answers g c =
    let disk = g.D.Disk.state c.args.disk.now in
    let depot = g.P.Depot.state c.args.depot.now in
    let text = c.in_ok-answer_text-in-Answers in
    rw c.in-Answers.is (record {
      follows = follows_itself disk;
      kept = kept_itself depot;
      applies = answers_applied c.in-Answers.answer _ c.args.opened depot.contents disk disk text.ensures refl (g.met.D.Disk.holds_a_tree c.args.disk.now);
      shown = tt;
      works = works_nothing _ c.args.opened disk.told;
      met = (refl, refl);
      points = c.requires.points;
      current = rested_current (Ok (record { opened = c.args.opened; reply = Text text.field-0 })) disk.told disk.told refl;
      replies = text.ensures;
      unfinished = tt;
      damaged = tt;
      cause = tt;
    })

pub returns-in-Checks : goal.returns-in-Checks
returns-in-Checks g c =
    let old = g.D.Disk.state c.args.disk.now in
    let new = g.D.Disk.state c.check_files.new.disk in
    let depot = g.P.Depot.state c.args.depot.now in
    let e = c.check_files.ensures in
    rw c.in-Checks.is (record {
      follows = rests_follow old new e.rests;
      kept = kept_itself depot;
      applies = e.checks;
      shown = e.shown;
      works = works_not _ c.args.opened old.told new.told (reading_keeps old new e.rests.told);
      met = e.met;
      points = points_rested _ c.args.opened old new c.check_files.result e.rests.told c.requires.points e.met;
      current = rested_current c.check_files.result old.told new.told e.rests.told;
      replies = e.replies;
      unfinished = rest_unfinished _ c.args.opened old new c.check_files.result e.cause;
      damaged = damages_said c.check_files.result;
      cause = rest_is_cause c.args.opened old new depot depot c.check_files.result e.cause;
    })

pub returns-in-Shows : goal.returns-in-Shows
returns-in-Shows g c =
    let old = g.D.Disk.state c.args.disk.now in
    let new = g.D.Disk.state c.show.new.disk in
    let depot = g.P.Depot.state c.args.depot.now in
    let e = c.show.ensures in
    rw c.in-Shows.is (record {
      follows = rests_follow old new e.rests;
      kept = kept_itself depot;
      applies = e.shows;
      shown = e.shown;
      works = works_not _ c.args.opened old.told new.told (reading_keeps old new e.rests.told);
      met = e.met;
      points = points_rested _ c.args.opened old new c.show.result e.rests.told c.requires.points e.met;
      current = rested_current c.show.result old.told new.told e.rests.told;
      replies = e.replies;
      unfinished = rest_unfinished _ c.args.opened old new c.show.result e.cause;
      damaged = e.damaged;
      cause = rest_is_cause c.args.opened old new depot depot c.show.result e.cause;
    })

pub returns-in-Refuses : goal.returns-in-Refuses
returns-in-Refuses g c =
    let disk = g.D.Disk.state c.args.disk.now in
    let depot = g.P.Depot.state c.args.depot.now in
    rw c.in-Refuses.is (record {
      follows = follows_itself disk;
      kept = kept_itself depot;
      applies = refusal_applied c.in-Refuses.refusal c.args.opened depot.contents disk disk refl (g.met.D.Disk.holds_a_tree c.args.disk.now);
      shown = tt;
      works = works_nothing _ c.args.opened disk.told;
      met = (refl, refl);
      points = c.requires.points;
      current = rested_current (Ok (record { opened = c.args.opened; reply = Refused c.in-Refuses.refusal })) disk.told disk.told refl;
      replies = tt;
      unfinished = tt;
      damaged = tt;
      cause = tt;
    })
