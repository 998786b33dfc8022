use Rattle.std.proofs.Common.{◌≡◌, ◌++◌, ◌∷◌, [], List, Ok, Err, map, sym, subst}
use Rattle.std.specs.Prelude.{Result, reverse}
use Rattle.ext_tree.specs.Tree.{Entries}
use Rattle.ext_layer.specs.Layered.{GivesLayered}
use Rattle.ext_layer.specs.declared.errors.LayerErr.{LayerErr}
use Rattle.ext_host.specs.Held.{HeldFile}
use Rattle.ext_portext.specs.Steps.{GivesUnitTree}
use Rattle.ext_portext.specs.UnitTree.{inside_tree}
use Rattle.ext_portext.specs.declared.errors.PortExtErr.{PortExtErr}
use Rattle.ext_portext.specs.declared.extending.Extending.{Extending}
use Rattle.ext_portext.proofs.UnitTreeLemmas.{apart_view, extended, fits_given, view_fails}
use Rattle.ext_portext.proofs.unit_tree.extended_tree.Goals as goal

-- what the layering gives, of the layers that there are
moved : (layers all : List (Entries HeldFile)) (under inner : Entries HeldFile) (r : Result (Entries HeldFile) LayerErr) → layers ≡ all → under ≡ inner → GivesLayered (layers ++ under ∷ []) r → GivesLayered (all ++ inner ∷ []) r
moved layers all under inner r first second given = subst (λ (ls : List (Entries HeldFile)). GivesLayered ls r) (λ i. first i ++ second i ∷ []) given

pub with_view-requires-clause-apart : goal.with_view-requires-clause-apart
with_view-requires-clause-apart c =
    let names = c.args.hierarchies.now in
    let extensions = c.args.extensions.now in
    let given = moved c.in_ok-layers.layers (reverse (map (λ (x : Extending). inside_tree names x.tree) extensions)) c.in_ok-under.under (inside_tree names c.args.image.now) (Ok c.in-Ok.view)
    c.in_ok-layers.ensures.layers c.in_ok-under.ensures.inside c.in-Ok.ensures
    in
    apart_view names c.args.image.now extensions c.pairs-entries.ensures.tree.tree c.in_ok-layers.ensures.trees c.in-Ok.view given.0

pub with_view-requires-clause-tree : goal.with_view-requires-clause-tree
with_view-requires-clause-tree c =
    let names = c.args.hierarchies.now in
    let extensions = c.args.extensions.now in
    let given = moved c.in_ok-layers.layers (reverse (map (λ (x : Extending). inside_tree names x.tree) extensions)) c.in_ok-under.under (inside_tree names c.args.image.now) (Ok c.in-Ok.view)
    c.in_ok-layers.ensures.layers c.in_ok-under.ensures.inside c.in-Ok.ensures
    in
    (extended names c.args.image.now extensions c.pairs-entries.ensures.tree.tree c.in_ok-layers.ensures.trees c.in-Ok.view given.0).is_tree

pub returns-in-Ok : goal.returns-in-Ok
returns-in-Ok c =
    let names = c.args.hierarchies.now in
    let extensions = c.args.extensions.now in
    let given = moved c.in_ok-layers.layers (reverse (map (λ (x : Extending). inside_tree names x.tree) extensions)) c.in_ok-under.under (inside_tree names c.args.image.now) (Ok c.in-Ok.view)
    c.in_ok-layers.ensures.layers c.in_ok-under.ensures.inside c.in-Ok.ensures
    in
    fits_given names c.args.image.now extensions c.pairs-entries.ensures.tree.tree c.in_ok-layers.ensures.trees c.in-Ok.view given.0 c.requires c.with_view.result c.with_view.ensures

pub returns : goal.returns
returns c =
    let names = c.args.hierarchies.now in
    let extensions = c.args.extensions.now in
    let given = moved c.in_ok-layers.layers (reverse (map (λ (x : Extending). inside_tree names x.tree) extensions)) c.in_ok-under.under (inside_tree names c.args.image.now) (Err c.in-Err.failed)
    c.in_ok-layers.ensures.layers c.in_ok-under.ensures.inside c.in-Err.ensures
    in
    subst (λ (e : PortExtErr). GivesUnitTree names c.args.image.now extensions (Err e)) (sym c.from.ensures)
    (view_fails names c.args.image.now extensions c.pairs-entries.ensures.tree.tree c.in_ok-layers.ensures.trees c.requires c.in-Err.failed given)
