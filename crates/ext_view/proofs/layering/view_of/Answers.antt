use Rattle.std.proofs.Common.{[], ◌∷◌, ◌++◌, Ok, Err, subst}
use Rattle.std.proofs.lemmas.Result.{err_from_is_err_and}
use Rattle.ext_layer.specs.Layered.{GivesLayered}
use Rattle.ext_view.proofs.LayerLemmas.{view_fails, view_given}
use Rattle.ext_view.proofs.layering.view_of.Goals as goal

pub returns : goal.returns
returns c = (
  view_given c.args.hierarchies.now c.args.base c.args.items.now c.requires.tree c.in_ok-layers.layers c.in_ok-layers.ensures c.in_ok-view.view (subst (λ under. GivesLayered (c.in_ok-layers.layers ++ under ∷ []) (Ok c.in_ok-view.view)) c.entries_inside-under.ensures c.in_ok-view.ensures),
  c.entries_inside-under.ensures,
)

pub returns-in_err-view : goal.returns-in_err-view
returns-in_err-view c =
    let p = err_from_is_err_and c.from_residual-in_err-view.result c.from_residual-in_err-view.ensures.1 in
    rw (p.1, p.2)
    (view_fails c.args.hierarchies.now c.args.base c.args.items.now c.requires.tree c.in_ok-layers.layers c.in_ok-layers.ensures c.in_err-view.field-0.0 (subst (λ under. GivesLayered (c.in_ok-layers.layers ++ under ∷ []) (Err c.in_err-view.field-0.0)) c.entries_inside-under.ensures c.in_err-view.ensures))
