use Rattle.std.specs.Option.{option_copied}
use Rattle.ext_gen.proofs.PreparingReadyLemmas.{change_keeps_durably, result_prepares}
use Rattle.ext_gen.proofs.preparing.prepare.Goals as goal

pub returns-clause-durable : goal.returns-clause-durable
returns-clause-durable g c =
    let r = g.D.Disk.state c.args.disk.now in
    let s = g.D.Disk.state c.write_coming.new.disk in
    change_keeps_durably (option_copied c.args.from) r s (g.met.D.Disk.holds_a_tree c.args.disk.now) c.requires.points c.write_coming.ensures.changes.spares

pub returns-clause-prepared : goal.returns-clause-prepared
returns-clause-prepared g c =
    let from = option_copied c.args.from in
    let r = g.D.Disk.state c.args.disk.now in
    let s = g.D.Disk.state c.write_coming.new.disk in
    let spares = c.write_coming.ensures.changes.spares in
    result_prepares from c.args.plan.next r s (g.P.Depot.state c.args.depot.now) c.requires.drawn c.requires.kept c.requires.points
    (change_keeps_durably from r s (g.met.D.Disk.holds_a_tree c.args.disk.now) c.requires.points spares) spares c.write_coming.result c.write_coming.ensures.completed
