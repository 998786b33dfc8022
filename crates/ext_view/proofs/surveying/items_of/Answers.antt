use Rattle.std.proofs.Common.{◌≡◌, ◌++◌, ◌∷◌, [], ap, sym, subst, ◌∙◌, append_assoc, arith, cond, is_ok}
use Rattle.std.proofs.lemmas.Result.{err_from_is_err_and}
use Rattle.std.specs.List.{AllByRecursion}
use Rattle.ext_text.proofs.ForCallers.{all_back}
use Rattle.ext_view.specs.Judging.{IsSound}
use Rattle.ext_view.specs.Matched.{AreMatched}
use Rattle.ext_view.specs.Surveying.{IsItemOf}
use Rattle.ext_view.proofs.MatchedLemmas.{matched_push}
use Rattle.ext_view.proofs.SurveyLemmas.{lists_fail}
use Rattle.ext_view.proofs.surveying.items_of.Goals as goal

pub item_of-requires-clause-sound : goal.item_of-requires-clause-sound
item_of-requires-clause-sound g c =
    let sound = IsSound c.args.look.now.base.now c.args.look.now.class in
    let whole : c.args.found ≡ c.loop-item.yielded ++ c.in-Some.item ∷ c.next.new.self.rest.items = sym (ap (λ xs. c.loop-item.yielded ++ xs) (sym c.in-Some.ensures.steps.0) ∙ c.loop-item.invariant.0) in
    (all_back sound c.loop-item.yielded (c.in-Some.item ∷ c.next.new.self.rest.items) (subst (AllByRecursion sound) whole c.requires.sound)).0

pub loop-item-preserved : goal.loop-item-preserved
loop-item-preserved g c =
    let told = g.H.Shelf.told c.args.shelf.now in
    let look = c.args.look.now in
    let stays = c.loop-item.invariant.2 in
    let same : told ≡ g.H.Shelf.told c.loop-item.shelf = λ i held. sym (g.met.H.Shelf.stays_laws.tells c.args.shelf.now c.loop-item.shelf held stays) i in (
      append_assoc c.loop-item.yielded (c.in-Some.item ∷ []) c.next.new.self.rest.items ∙ ap (λ xs. c.loop-item.yielded ++ xs) (sym c.in-Some.ensures.steps.0) ∙ c.loop-item.invariant.0,
      subst (AreMatched (IsItemOf told look.host.now look.base.now look.class look.force look.release.now) (c.loop-item.yielded ++ c.in-Some.item ∷ [])) (sym (c.push.ensures.items ∙ ap (λ r. cond (is_ok r) (c.loop-item.items.items ++ c.in_ok-item_of.field-0 ∷ []) c.loop-item.items.items) c.in_ok-allocated.ensures))
          (matched_push (IsItemOf told look.host.now look.base.now look.class look.force look.release.now) c.loop-item.yielded c.loop-item.items.items c.in-Some.item c.in_ok-item_of.field-0 c.loop-item.invariant.1
          (subst (λ t. IsItemOf t look.host.now look.base.now look.class look.force look.release.now c.in-Some.item c.in_ok-item_of.field-0) (sym same) c.in_ok-item_of.ensures.gives)),
      g.met.H.Shelf.stays_laws.through _ _ _ stays c.item_of.ensures.stays,
      omega (arith, c.item_of.ensures.count, c.loop-item.invariant.3),
    )

pub returns-in_err-item_of-clause-gives : goal.returns-in_err-item_of-clause-gives
returns-in_err-item_of-clause-gives g c =
    let p = err_from_is_err_and c.from_residual-in_err-item_of.result c.from_residual-in_err-item_of.ensures.1 in
    let look = c.args.look.now in
    let told = g.H.Shelf.told c.args.shelf.now in
    let stays = c.loop-item.invariant.2 in
    let whole : c.args.found ≡ c.loop-item.yielded ++ c.in-Some.item ∷ c.next.new.self.rest.items = sym (ap (λ xs. c.loop-item.yielded ++ xs) (sym c.in-Some.ensures.steps.0) ∙ c.loop-item.invariant.0) in
    rw (p.1, p.2)
    (lists_fail told (g.H.Shelf.told c.loop-item.shelf) (λ held. g.met.H.Shelf.stays_laws.tells c.args.shelf.now c.loop-item.shelf held stays) (g.H.Shelf.faults c.args.shelf.now) (g.H.Shelf.faults c.loop-item.shelf) (g.H.Shelf.faults c.item_of.new.shelf) c.loop-item.invariant.3
    look.host.now look.base.now look.class look.force look.release.now c.in-Some.item c.args.found c.loop-item.yielded c.next.new.self.rest.items c.in_err-item_of.field-0.0 whole c.in_err-item_of.ensures.gives)
