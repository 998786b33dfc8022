use Rattle.std.proofs.Common.{refl}
use Rattle.ext_top.specs.Devices.{store_side}
use Rattle.ext_top.proofs.RunLemmas.{is_of_opening, opened_points}
use Rattle.ext_top.proofs.TextLemmas.{closed_text, opened_text}
use Rattle.ext_top.proofs.over_store.run_text.Goals as goal

pub run_lines-requires : goal.run_lines-requires
run_lines-requires g c = record { points = opened_points c.in-Ok.opened (g.D.Disk.state c.args.disk.now) (g.D.Disk.state c.open.new.disk) c.in-Ok.ensures.now c.in-Ok.ensures.says }

pub returns-in-Ok : goal.returns-in-Ok
returns-in-Ok g c =
    let sink = g.K.Sink.state c.args.sink.now in
    let old = g.D.Disk.state c.args.disk.now in
    let mid = g.D.Disk.state c.open.new.disk in
    let depot = g.P.Depot.state c.args.depot.now in
    let log = g.O.Observer.state c.args.observer.now in
    let new = store_side (g.K.Sink.state c.run_lines.new.sink) (g.D.Disk.state c.run_lines.new.disk) (g.P.Depot.state c.run_lines.new.depot) (g.O.Observer.state c.run_lines.new.observer) in
    let runs = c.run_lines.ensures.runs in
    record {
      runs = rw (c.status_of_lines.ensures runs.last) (opened_text c.args.text.now c.in-Ok.opened sink old mid depot log c.run_lines.result new
          (record { follows = c.in-Ok.ensures.follows; keeps = c.in-Ok.ensures.now; sound = c.in-Ok.ensures.stops; points = c.in-Ok.ensures.says; sink = refl; depot = refl; observer = refl }) runs
          (g.met.D.Disk.holds_a_tree c.run_lines.new.disk));
    }

pub status_of_closed-requires : goal.status_of_closed-requires
status_of_closed-requires g c = is_of_opening _ _ c.in-Err.error c.in-Err.ensures.cause

pub returns-in-Err : goal.returns-in-Err
returns-in-Err g c =
    record {
      runs = rw c.status_of_closed.ensures (closed_text c.args.text.now (g.K.Sink.state c.args.sink.now) (g.D.Disk.state c.args.disk.now) (g.D.Disk.state c.open.new.disk) (g.P.Depot.state c.args.depot.now) (g.O.Observer.state c.args.observer.now) c.in-Err.error
          c.in-Err.ensures.follows c.in-Err.ensures.now c.in-Err.ensures.says c.in-Err.ensures.stops c.in-Err.ensures.cause);
    }
