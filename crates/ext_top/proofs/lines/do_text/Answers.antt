use Rattle.std.proofs.Common.{None, inr, refl}
use Rattle.std.proofs.lemmas.Result.{err_from_is_err_and}
use Rattle.ext_top.specs.Exits.{does, unread, wrong}
use Rattle.ext_top.proofs.lines.do_text.Goals as goal

pub returns-in_err-written-in-Ok-Some : goal.returns-in_err-written-in-Ok-Some
returns-in_err-written-in-Ok-Some g c =
    let p = err_from_is_err_and c.from_residual.result c.from_residual.ensures.1 in
    let e = c.in_err-written-in-Ok-Some.ensures in
    rw (p.1, p.2) (record {
      runs = (
        does c.in-Ok-Some.command,
        rw c.in-Ok-Some.field-0-is at c.in-Ok-Some.ensures,
        e.runs,
      );
    })

pub returns-in_ok-written-in-Ok-Some : goal.returns-in_ok-written-in-Ok-Some
returns-in_ok-written-in-Ok-Some g c =
    let e = c.in_ok-written-in-Ok-Some.ensures in
    record {
      runs = inr (
        does c.in-Ok-Some.command,
        c.in_ok-written-in-Ok-Some.written,
        rw c.in-Ok-Some.field-0-is at c.in-Ok-Some.ensures,
        refl,
        e.runs,
      );
    }

pub returns-in_err-write_usage-in-Err-Usage : goal.returns-in_err-write_usage-in-Err-Usage
returns-in_err-write_usage-in-Err-Usage g c =
    let p = err_from_is_err_and c.from_residual-in_err-write_usage-in-Err-Usage.result c.from_residual-in_err-write_usage-in-Err-Usage.ensures.1 in
    let e = c.in_err-write_usage-in-Err-Usage.ensures in
    rw (p.1, p.2) (record { runs = (wrong c.in-Err-Usage.place, rw c.in-Err-Usage.field-0-is at c.in-Err-Usage.ensures, record { disk = refl {a = g.D.Disk.state c.args.disk.now}; depot = refl {a = g.P.Depot.state c.args.depot.now}; observer = refl {a = g.O.Observer.state c.args.observer.now}; count = e.count; writes = e.writes; goes_on = tt }) })

pub returns-in_ok-write_usage-in-Err-Usage : goal.returns-in_ok-write_usage-in-Err-Usage
returns-in_ok-write_usage-in-Err-Usage g c =
    let e = c.in_ok-write_usage-in-Err-Usage.ensures in
    record { runs = inr (wrong c.in-Err-Usage.place, record { opened = c.args.opened; refusal = None }, rw c.in-Err-Usage.field-0-is at c.in-Err-Usage.ensures, refl, record { disk = refl {a = g.D.Disk.state c.args.disk.now}; depot = refl {a = g.P.Depot.state c.args.depot.now}; observer = refl {a = g.O.Observer.state c.args.observer.now}; count = e.count; writes = e.writes; goes_on = (refl, refl) }) }

pub returns-in-Err-OutOfMemory : goal.returns-in-Err-OutOfMemory
returns-in-Err-OutOfMemory g c = record { runs = (unread, tt, (refl, refl)) }
