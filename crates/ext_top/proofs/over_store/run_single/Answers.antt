use Rattle.std.proofs.Common.{false, [], ◌∷◌, refl}
use Rattle.ext_top.specs.Chain.{result_of_line}
use Rattle.ext_top.specs.Devices.{store_side}
use Rattle.ext_top.specs.Exits.{does}
use Rattle.ext_top.proofs.ChainLemmas.{line_alone}
use Rattle.ext_top.proofs.RunLemmas.{closed_lines, is_of_opening, opened_lines, opened_points}
use Rattle.ext_top.proofs.over_store.run_single.Goals as goal

pub do_line-requires-clause-points : goal.do_line-requires-clause-points
do_line-requires-clause-points g c = opened_points c.in-Ok.opened (g.D.Disk.state c.args.disk.now) (g.D.Disk.state c.open.new.disk) c.in-Ok.ensures.now c.in-Ok.ensures.says

pub returns-in-Ok : goal.returns-in-Ok
returns-in-Ok g c =
    let sink = g.K.Sink.state c.args.sink.now in
    let old = g.D.Disk.state c.args.disk.now in
    let mid = g.D.Disk.state c.open.new.disk in
    let depot = g.P.Depot.state c.args.depot.now in
    let log = g.O.Observer.state c.args.observer.now in
    let new = store_side (g.K.Sink.state c.do_line.new.sink) (g.D.Disk.state c.do_line.new.disk) (g.P.Depot.state c.do_line.new.depot) (g.O.Observer.state c.do_line.new.observer) in
    record {
      runs = rw c.status_of_line.ensures (opened_lines false (does c.args.command.now ∷ []) c.in-Ok.opened sink old mid depot log (result_of_line c.do_line.result) new
          (record { follows = c.in-Ok.ensures.follows; keeps = c.in-Ok.ensures.now; sound = c.in-Ok.ensures.stops; points = c.in-Ok.ensures.says; sink = refl; depot = refl; observer = refl })
          (line_alone (does c.args.command.now) c.in-Ok.opened (store_side sink mid depot log) c.do_line.result new c.do_line.ensures.runs)
          (g.met.D.Disk.holds_a_tree c.do_line.new.disk));
    }

pub status_of_closed-requires : goal.status_of_closed-requires
status_of_closed-requires g c = is_of_opening _ _ c.in-Err.error c.in-Err.ensures.cause

pub returns-in-Err : goal.returns-in-Err
returns-in-Err g c =
    record {
      runs = rw c.status_of_closed.ensures (closed_lines false (does c.args.command.now ∷ []) (g.K.Sink.state c.args.sink.now) (g.D.Disk.state c.args.disk.now) (g.D.Disk.state c.open.new.disk) (g.P.Depot.state c.args.depot.now) (g.O.Observer.state c.args.observer.now) c.in-Err.error
          c.in-Err.ensures.follows c.in-Err.ensures.now c.in-Err.ensures.says c.in-Err.ensures.stops c.in-Err.ensures.cause);
    }
