use Rattle.std.proofs.Common.{rules, subst, sym}
use Rattle.std.specs.Ordering.{is_lt}
use Rattle.std.proofs.lemmas.Fn.{always_returns_same, dedup_same}
use Rattle.std.proofs.lemmas.List.Sorted.{ranks_by}
use Rattle.ext_available.specs.declared.offer.Offer.{Offer}
use Rattle.ext_available.specs.Candidates.{AreLeast, offer_cmp}
use Rattle.ext_available.proofs.LeastLemmas.{are_least, of_one_version, offers_total, sorted_offers}
use Rattle.ext_available.proofs.least.least.Goals as goal

pub returns : goal.returns
returns c =
    let sorted = c.sort_unstable_by.new.self.items in
    let ascends = c.sort_unstable_by.ensures.sorted (λ (x y : Offer). is_lt (offer_cmp x y)) (ranks_by offers_total (λ (o : Offer). o)) (always_returns_same _ _ _ (λ a r f h. search rules)) in
    subst (AreLeast c.args.offers.items) (sym (dedup_same _ of_one_version _ (λ x y b f x2 y2 k. search rules) _ _ c.dedup_by.ensures.filtered))
    (are_least c.args.offers.items sorted c.sort_unstable_by.ensures.permutation (sorted_offers sorted ascends))
