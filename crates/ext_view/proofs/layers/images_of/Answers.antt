use Rattle.std.proofs.Common.{◌≡◌, ◌++◌, ◌+◌, [], ◌∷◌, sym, subst, ap, ◌∙◌, take}
use Rattle.std.proofs.lemmas.List.{take_more}
use Rattle.ext_walk.specs.Walk.{Ends}
use Rattle.ext_view.specs.Parts.{AreEndsOf}
use Rattle.ext_view.proofs.MatchedLemmas.{matched_push}
use Rattle.ext_view.proofs.layers.images_of.Goals as goal

pub loop-item-preserved : goal.loop-item-preserved
loop-item-preserved c =
    let base = c.args.base.now in
    let items = c.args.items.now in
    let i = c.loop-item.item-index in
    let item = c.item-item.result in
    let more : take (i + 1) items ≡ take i items ++ item ∷ [] = take_more items i item c.loop-item-test.true ∙ ap (λ x. take i items ++ x ∷ []) (sym c.item-item.is) in
    subst (λ xs. AreEndsOf base xs c.push.new.self.items) (sym more)
    (subst (AreEndsOf base (take i items ++ item ∷ [])) (sym c.in_ok-push.ensures.items)
    (matched_push (λ item end. Ends base item.place end) (take i items) c.loop-item.images.items item c.in_ok-image_at.field-0 c.loop-item.invariant c.in_ok-image_at.ensures))
