use Rattle.std.proofs.Common.{Ok, Err, refl, arith}
use Rattle.std.proofs.lemmas.Result.{err_from_is_err_and}
use Rattle.ext_disk.proofs.ForCallers.{follows_then, rests_follow}
use Rattle.ext_top.proofs.LineLemmas.{shown_is_served, undone_cause, undone_line, unwritten_cause, written_line}
use Rattle.ext_top.specs.Working.{FindsDamage, WantsOn, WantsWithin}
use Rattle.ext_top.proofs.WorkingLemmas.{works_then}
use Rattle.ext_top.proofs.WrittenLemmas.{written_met}
use Rattle.ext_top.proofs.UnfinishedLemmas.{undone_unfinished, unwritten_unfinished}
use Rattle.ext_top.proofs.CurrentLemmas.{undone_current, unwritten_current, written_current, written_points}
use Rattle.ext_top.proofs.DamagedLemmas.{undone_damage, unwritten_damage}
use Rattle.ext_top.proofs.lines.do_line.Goals as goal

pub write_reply-requires : goal.write_reply-requires
write_reply-requires g c = shown_is_served c.args.opened (g.D.Disk.state c.args.disk.now) (g.D.Disk.state c.apply.new.disk) c.in_ok-applied.applied.reply c.in_ok-applied.ensures.shown

pub returns-in_err-applied : goal.returns-in_err-applied
returns-in_err-applied g c =
    let p = err_from_is_err_and c.from_residual.result c.from_residual.ensures.1 in
    let sink = g.K.Sink.state c.args.sink.now in
    let old = g.D.Disk.state c.args.disk.now in
    let mid = g.D.Disk.state c.apply.new.disk in
    let before = g.P.Depot.state c.args.depot.now in
    let log = g.O.Observer.state c.args.observer.now in
    let e = c.in_err-applied.ensures in
    rw (p.1, p.2) (record {
      runs = record {
        follows = e.follows;
        kept = e.kept;
        count = omega arith;
        told = undone_line before.contents c.args.command.now c.args.opened sink _ old.told mid.told e.applies;
        works = e.works;
        met = tt;
        points = tt;
        current = undone_current _ old.told mid.told e.current;
        unfinished = undone_unfinished (WantsWithin (WantsOn c.args.opened old before.contents c.args.command.now) c.args.opened) _ e.unfinished;
        damaged = undone_damage (FindsDamage c.args.command.now c.args.opened old before) _ e.damaged;
        cause = undone_cause c.args.opened sink sink old mid before (g.P.Depot.state c.apply.new.depot) _ e.cause;
        tells = refl {a = log};
      };
    })

pub returns-in_err-refusal : goal.returns-in_err-refusal
returns-in_err-refusal g c =
    let p = err_from_is_err_and c.from_residual-in_err-refusal.result c.from_residual-in_err-refusal.ensures.1 in
    let sink = g.K.Sink.state c.args.sink.now in
    let out = g.K.Sink.state c.write_reply.new.sink in
    let old = g.D.Disk.state c.args.disk.now in
    let mid = g.D.Disk.state c.apply.new.disk in
    let new = g.D.Disk.state c.write_reply.new.disk in
    let before = g.P.Depot.state c.args.depot.now in
    let W = WantsOn c.args.opened old before.contents c.args.command.now in
    let applied = c.in_ok-applied.applied in
    let log = g.O.Observer.state c.args.observer.now in
    let a = c.in_ok-applied.ensures in
    let e = c.in_err-refusal.ensures in
    rw (p.1, p.2) (record {
      runs = record {
        follows = follows_then old mid new a.follows (rests_follow mid new e.rests);
        kept = a.kept;
        count = e.count;
        told = written_line before.contents c.args.command.now c.args.opened sink out old mid new applied.opened applied.reply (Err _) e.rests e.writes a.applies;
        works = works_then W c.args.opened old.told mid.told new.told e.rests.told a.works;
        met = tt;
        points = tt;
        current = unwritten_current c.args.opened applied.opened applied.reply old mid new sink out _ e.rests e.writes a.shown a.current;
        unfinished = unwritten_unfinished (WantsWithin W c.args.opened) applied.reply sink out mid new _ e.cause;
        damaged = unwritten_damage c.args.command.now c.args.opened applied.opened old mid before applied.reply sink out mid new _ a.met e.cause;
        cause = unwritten_cause c.args.opened sink out old mid new before (g.P.Depot.state c.apply.new.depot) applied.reply _ a.follows.count a.shown e.cause;
        tells = refl {a = log};
      };
    })

pub returns : goal.returns
returns g c =
    let sink = g.K.Sink.state c.args.sink.now in
    let out = g.K.Sink.state c.write_reply.new.sink in
    let old = g.D.Disk.state c.args.disk.now in
    let mid = g.D.Disk.state c.apply.new.disk in
    let new = g.D.Disk.state c.write_reply.new.disk in
    let before = g.P.Depot.state c.args.depot.now in
    let W = WantsOn c.args.opened old before.contents c.args.command.now in
    let applied = c.in_ok-applied.applied in
    let a = c.in_ok-applied.ensures in
    let r = c.in_ok-refusal in
    record {
      runs = record {
        follows = follows_then old mid new a.follows (rests_follow mid new r.ensures.rests);
        kept = a.kept;
        count = r.ensures.count;
        told = written_line before.contents c.args.command.now c.args.opened sink out old mid new applied.opened applied.reply (Ok r.refusal) r.ensures.rests r.ensures.writes a.applies;
        works = works_then W c.args.opened old.told mid.told new.told r.ensures.rests.told a.works;
        met = written_met W c.args.opened old mid new before applied.opened applied.reply r.refusal sink out r.ensures.rests r.ensures.refusal a.met a.shown r.ensures.writes;
        points = written_points applied.opened mid new r.ensures.rests a.points;
        current = written_current applied.opened applied.reply r.refusal old mid new r.ensures.rests r.ensures.refusal a.current;
        unfinished = tt;
        damaged = tt;
        cause = tt;
        tells = c.tell.ensures;
      };
    }
