use Rattle.std.proofs.Common.{◌≡◌, ◌+◌, ◌∷◌, [], ◌++◌, ℕ, List, Vec, Global, cond, drop, ap, subst, sym, ◌∙◌}
use Rattle.std.specs.Result.{is_ok}
use Rattle.std.proofs.lemmas.List.{drop_all, drop_more}
use Rattle.ext_available.specs.declared.offer.Offer.{Offer}
use Rattle.ext_available.specs.Available.{IsAvailable}
use Rattle.ext_available.proofs.AvailableLemmas.{FindsOn, finds_on_after, finds_on_last, finds_on_without, not_true}
use Rattle.ext_available.proofs.availability.available_of.Goals as goal
use Rattle.ext_available.proofs.availability.available_of.Goals.{then-is_available+in_ok-copy+in_ok-allocated, else-is_available}

pub loop-offer-preserved : goal.loop-offer-preserved
loop-offer-preserved c =
    let ts = c.args.transfers.now in
    let os = c.args.offers.now in
    let all = c.args.some.now in
    let i = c.loop-offer.offer-index in
    let o = c.offer-item.result in
    let left = drop (i + 1) all in
    let done = c.loop-offer.found.items in
    let parted : drop i all ≡ o ∷ left = drop_more all i o c.loop-offer-test.true ∙ ap (λ (x : Offer). x ∷ left) (sym c.offer-item.is) in
    let so_far = subst (λ (l : List Offer). FindsOn ts os all l done) parted c.loop-offer.invariant.so_far in
    record {
      so_far = elim c.if-is_available.branch [
        | then-is_available+in_ok-copy+in_ok-allocated w ↦
            let available = subst (IsAvailable ts os) c.bytes.ensures (c.is_available.ensures.0 w.if-is_available.true) in
            let pushed : w.push.new.self.items ≡ done ++ w.in_ok-copy.field-0 ∷ [] = w.push.ensures.items ∙ ap (λ r. cond (is_ok r) (done ++ w.in_ok-copy.field-0 ∷ []) done) w.in_ok-allocated.ensures in
            subst (FindsOn ts os all left) (sym (ap (λ (v : Vec (List ℕ) Global). v.items) w.found-is ∙ pushed ∙ ap (λ (v : List ℕ). done ++ v ∷ []) w.in_ok-copy.ensures)) (finds_on_after ts os all o left done so_far available)
        | else-is_available w ↦
            let not = λ (is : IsAvailable ts os o.version). not_true c.is_available.result w.if-is_available.false (c.is_available.ensures.1 (subst (IsAvailable ts os) (sym c.bytes.ensures) is)) in
            subst (FindsOn ts os all left) (sym (ap (λ (v : Vec (List ℕ) Global). v.items) w.found-is)) (finds_on_without ts os all o left done so_far not)
      ];
    }

pub returns : goal.returns
returns c =
    let ts = c.args.transfers.now in
    let os = c.args.offers.now in
    let all = c.args.some.now in
    finds_on_last ts os all c.loop-offer.found.items
    (subst (λ (l : List Offer). FindsOn ts os all l c.loop-offer.found.items) (drop_all c.loop-offer.offer-index all c.loop-offer-test.false) c.loop-offer.invariant.so_far)
