use Rattle.std.proofs.Common.{◌≡◌, ◌≢◌, ◌++◌, [], ◌∷◌, Some, cond, sym, ap, ◌∙◌}
use Rattle.std.specs.Option.{option_map}
use Rattle.std.proofs.lemmas.Bool.{false≢true}
use Rattle.ext_tree.specs.Part.{part}
use Rattle.ext_tree.specs.Tree.{lookup}
use Rattle.ext_tree.proofs.ForCallers.{root_part}
use Rattle.ext_layer.specs.Layered.{cuts_below}
use Rattle.ext_explain.specs.Finding.{cover_of}
use Rattle.ext_explain.proofs.SightLemmas.{cover_further, cover_last, cover_nothing, found_further, found_last, found_nothing}
use Rattle.ext_explain.proofs.seeing.+see.Goals as goal

pub returns-in_default-clause-found : goal.returns-in_default-clause-found
returns-in_default-clause-found t c =
    c.nothing.ensures.found ∙ sym (ap (lookup (part c.args.directory.now c.args.base.now)) c.in_default.ensures ∙ root_part c.args.directory.now c.args.base.now)

pub returns-in_default-spot_near-clause-found : goal.returns-in_default-spot_near-clause-found
returns-in_default-spot_near-clause-found t c =
    let whole : c.args.path.now ≡ c.in-Some.name.now ∷ c.in-Some.below = cc c.in-Some.ensures.0 in
    c.nothing-in_default-spot_near.ensures.found
    ∙ sym (found_nothing c.args.base.now c.args.directory.now c.in-Some.name.now c.args.path.now c.in-Some.below whole c.in_default-spot_near.ensures.tree c.in_default-spot_near.ensures.found)

pub returns-in_default-spot_near-clause-cover : goal.returns-in_default-spot_near-clause-cover
returns-in_default-spot_near-clause-cover t c =
    let whole : c.args.path.now ≡ c.in-Some.name.now ∷ c.in-Some.below = cc c.in-Some.ensures.0 in
    c.nothing-in_default-spot_near.ensures.cover
    ∙ sym (cover_nothing c.args.base.now c.args.directory.now c.in-Some.name.now c.args.path.now c.in-Some.below whole c.in_default-spot_near.ensures.tree c.in_default-spot_near.ensures.found)

pub returns-then-is_root-clause-found : goal.returns-then-is_root-clause-found
returns-then-is_root-clause-found t c =
    let whole : c.args.path.now ≡ c.in-Some.name.now ∷ c.in-Some.below = cc c.in-Some.ensures.0 in
    c.at_end.ensures.found
    ∙ sym (found_last c.args.base.now c.args.directory.now c.in-Some.name.now c.args.path.now c.in-Some.below whole (c.is_root.ensures.0 c.if-is_root.true) c.in-Some-spot_near.spot.pair.now.1 c.in-Some-spot_near.ensures.found.1)

pub returns-then-is_root-clause-cover : goal.returns-then-is_root-clause-cover
returns-then-is_root-clause-cover t c =
    let whole : c.args.path.now ≡ c.in-Some.name.now ∷ c.in-Some.below = cc c.in-Some.ensures.0 in
    c.at_end.ensures.cover
    ∙ sym (cover_last c.args.base.now c.args.directory.now c.in-Some.name.now c.args.path.now c.in-Some.below whole (c.is_root.ensures.0 c.if-is_root.true))

pub returns-clause-found : goal.returns-clause-found
returns-clause-found t c =
    let whole : c.args.path.now ≡ c.in-Some.name.now ∷ c.in-Some.below = cc c.in-Some.ensures.0 in
    let more : c.in-Some.below ≢ [] = λ end. false≢true (sym c.if-is_root.false ∙ c.is_root.ensures.1 end) in
    c.seen_over.ensures.found ∙ c.see-deeper.ensures.found ∙ ap (λ at. lookup (part at c.args.base.now) c.in-Some.below) c.names.ensures.same
    ∙ found_further c.args.base.now c.args.directory.now c.in-Some.name.now c.args.path.now c.in-Some.below c.in-Some-spot_near.spot.pair.now.0 whole c.in-Some-spot_near.ensures.found.0 more

pub returns-clause-cover : goal.returns-clause-cover
returns-clause-cover t c =
    let whole : c.args.path.now ≡ c.in-Some.name.now ∷ c.in-Some.below = cc c.in-Some.ensures.0 in
    let more : c.in-Some.below ≢ [] = λ end. false≢true (sym c.if-is_root.false ∙ c.is_root.ensures.1 end) in
    let pair = c.in-Some-spot_near.spot.pair.now in
    c.seen_over.ensures.cover
    ∙ ap (cond (cuts_below (Some pair.1)) (Some pair.0)) (c.see-deeper.ensures.cover ∙ ap (λ at. option_map (λ q. at ++ q) (cover_of (part at c.args.base.now) c.in-Some.below)) c.names.ensures.same)
    ∙ sym (cover_further c.args.base.now c.args.directory.now c.in-Some.name.now c.args.path.now c.in-Some.below pair.0 whole c.in-Some-spot_near.ensures.found.0 more pair.1 c.in-Some-spot_near.ensures.found.1)
