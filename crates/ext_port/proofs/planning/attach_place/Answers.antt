use Rattle.std.proofs.Common.{[], Err, inl, inr, refl, sym, subst}
use Rattle.ext_units.specs.Body.{IsTreeOf}
use Rattle.ext_units.specs.Image.{IsImageAt}
use Rattle.ext_port.proofs.FilesLemmas.{tree_files}
use Rattle.ext_port.specs.Errors.{port_err_of_body}
use Rattle.ext_port.specs.Wants.{BarMemory, BodyWants, UnitsWant}
use Rattle.ext_port.specs.declared.errors.PortErr.{PortErr}
use Rattle.ext_port.proofs.WantsLemmas.{bar_from, bar_more}
use Rattle.ext_port.proofs.planning.attach_place.Goals as goal

pub attach_from-requires-clause-body : goal.attach_from-requires-clause-body
attach_from-requires-clause-body g c =
    let start = c.args.start.now in
    let read = c.in-Ok.ensures.gives in
    record {
      is_image = subst (IsImageAt start.base start.host.now.arch c.args.ask.now.image) (sym read.place_is) c.requires.image;
      is_tree = subst (λ place. IsTreeOf start.base place c.in-Ok.body.tree) (sym read.place_is) read.is_tree;
    }

pub attach_from-requires-clause-files : goal.attach_from-requires-clause-files
attach_from-requires-clause-files g c =
    let start = c.args.start.now in
    tree_files start.host.now start.base c.requires.start.base c.args.place c.in-Ok.body.tree c.in-Ok.ensures.gives.is_tree

pub returns-in-Ok-clause-gives : goal.returns-in-Ok-clause-gives
returns-in-Ok-clause-gives g c =
    let start = c.args.start.now in
    bar_more (UnitsWant start.host.now start.cut start.base c.args.ask.now c.in-Ok.body c.in-Ok.body.tree [])
    (BodyWants (g.H.Shelf.told c.args.shelf.now) (g.H.Shelf.faults c.args.shelf.now) (g.H.Shelf.faults c.body_at.new.shelf) start.host.now start.cut start.base c.args.ask.now c.args.place)
    (λ r wants. inl (c.in-Ok.body, c.in-Ok.ensures.gives, wants)) c.attach_from.result c.attach_from.ensures.gives

pub returns-in-Err-clause-gives : goal.returns-in-Err-clause-gives
returns-in-Err-clause-gives g c =
    let start = c.args.start.now in
    let wants = BodyWants (g.H.Shelf.told c.args.shelf.now) (g.H.Shelf.faults c.args.shelf.now) (g.H.Shelf.faults c.body_at.new.shelf) start.host.now start.cut start.base c.args.ask.now c.args.place in
    subst (λ (e : PortErr). BarMemory wants (Err e)) (sym c.from.ensures) (bar_from wants (Err (port_err_of_body c.in-Err.failed)) (inr (c.in-Err.failed, c.in-Err.ensures.gives, refl)))
