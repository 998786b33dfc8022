use Rattle.std.proofs.lemmas.Result.{err_from_is_err_and}
use Rattle.ext_lines.specs.Words.{words_of}
use Rattle.ext_top.specs.Devices.{store_side}
use Rattle.ext_top.proofs.TextLemmas.{goes_end, goes_start, goes_stop, goes_then, text_points}
use Rattle.ext_top.proofs.lines.run_lines.Goals as goal

pub lines-init : goal.lines-init
lines-init g c =
    let side = store_side (g.K.Sink.state c.args.sink.now) (g.D.Disk.state c.args.disk.now) (g.P.Depot.state c.args.depot.now) (g.O.Observer.state c.args.observer.now) in
    (c.requires.points, goes_start c.args.text.now c.args.opened side)

pub returns-in_default : goal.returns-in_default
returns-in_default g c =
    let old = store_side (g.K.Sink.state c.args.sink.now) (g.D.Disk.state c.args.disk.now) (g.P.Depot.state c.args.depot.now) (g.O.Observer.state c.args.observer.now) in
    let here = store_side (g.K.Sink.state c.lines.sink) (g.D.Disk.state c.lines.disk) (g.P.Depot.state c.lines.depot) (g.O.Observer.state c.lines.observer) in
    record { runs = goes_end c.args.text.now c.lines.rest.now c.args.opened c.lines.opened old here c.in_default.ensures c.lines.invariant.1 }

pub returns-in_err-opened : goal.returns-in_err-opened
returns-in_err-opened g c =
    let p = err_from_is_err_and c.from_residual.result c.from_residual.ensures.1 in
    let old = store_side (g.K.Sink.state c.args.sink.now) (g.D.Disk.state c.args.disk.now) (g.P.Depot.state c.args.depot.now) (g.O.Observer.state c.args.observer.now) in
    let here = store_side (g.K.Sink.state c.lines.sink) (g.D.Disk.state c.lines.disk) (g.P.Depot.state c.lines.depot) (g.O.Observer.state c.lines.observer) in
    let new = store_side (g.K.Sink.state c.do_text.new.sink) (g.D.Disk.state c.do_text.new.disk) (g.P.Depot.state c.do_text.new.depot) (g.O.Observer.state c.do_text.new.observer) in
    rw (p.1, p.2)
    (record { runs = goes_stop c.args.text.now c.lines.rest.now c.in-Some.after.now c.in-Some.line.now c.args.opened c.lines.opened old here new c.in_err-opened.field-0.0 c.in-Some.ensures.0 c.in_err-opened.ensures.runs c.lines.invariant.1 })

pub lines-preserved : goal.lines-preserved
lines-preserved g c =
    let old = store_side (g.K.Sink.state c.args.sink.now) (g.D.Disk.state c.args.disk.now) (g.P.Depot.state c.args.depot.now) (g.O.Observer.state c.args.observer.now) in
    let here = store_side (g.K.Sink.state c.lines.sink) (g.D.Disk.state c.lines.disk) (g.P.Depot.state c.lines.depot) (g.O.Observer.state c.lines.observer) in
    let new = store_side (g.K.Sink.state c.do_text.new.sink) (g.D.Disk.state c.do_text.new.disk) (g.P.Depot.state c.do_text.new.depot) (g.O.Observer.state c.do_text.new.observer) in (
      text_points (words_of c.in-Some.line.now) c.lines.opened c.in_ok-opened.opened here new c.lines.invariant.0 c.in_ok-opened.ensures.runs,
      goes_then c.args.text.now c.lines.rest.now c.in-Some.after.now c.in-Some.line.now c.args.opened c.lines.opened c.in_ok-opened.opened old here new c.in-Some.ensures.0 c.in_ok-opened.ensures.runs c.lines.invariant.1,
    )
