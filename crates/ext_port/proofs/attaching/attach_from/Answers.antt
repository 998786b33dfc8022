use Rattle.std.proofs.Common.{Err, inl, inr, refl, sym, subst}
use Rattle.ext_units.specs.Prefixes.{prefixes_of}
use Rattle.ext_port.specs.Errors.{port_err_of_units}
use Rattle.ext_port.specs.Wants.{BarMemory, ProfileWants, UnitsWant}
use Rattle.ext_port.specs.declared.errors.PortErr.{PortErr}
use Rattle.ext_port.proofs.WantsLemmas.{bar_from, bar_more}
use Rattle.ext_port.proofs.attaching.attach_from.Goals as goal

pub attach_units-requires-clause-units : goal.attach_units-requires-clause-units
attach_units-requires-clause-units c = (prefixes_of c.args.ask.now.prefixes c.args.body.now.place, c.in-Ok.ensures.1)

pub returns-in-Ok-clause-gives : goal.returns-in-Ok-clause-gives
returns-in-Ok-clause-gives c =
    let start = c.args.start.now in
    bar_more (ProfileWants start.host.now start.cut start.base c.args.ask.now c.args.body.now c.args.tree.now c.args.lines.now c.in-Ok.units)
    (UnitsWant start.host.now start.cut start.base c.args.ask.now c.args.body.now c.args.tree.now c.args.lines.now)
    (λ r wants. inl (c.in-Ok.units, c.in-Ok.ensures, wants)) c.attach_units.result c.attach_units.ensures.gives

pub returns-in-Err-clause-gives : goal.returns-in-Err-clause-gives
returns-in-Err-clause-gives c =
    let start = c.args.start.now in
    let wants = UnitsWant start.host.now start.cut start.base c.args.ask.now c.args.body.now c.args.tree.now c.args.lines.now in
    subst (λ (e : PortErr). BarMemory wants (Err e)) (sym c.from.ensures) (bar_from wants (Err (port_err_of_units c.in-Err.failed)) (inr (c.in-Err.failed, c.in-Err.ensures, refl)))
