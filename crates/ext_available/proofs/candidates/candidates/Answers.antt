use Rattle.std.proofs.Common.{◌≡◌, ◌+◌, ◌∷◌, [], ◌++◌, List, Vec, Global, cond, drop, ap, subst, sym, ◌∙◌}
use Rattle.std.specs.Result.{is_ok}
use Rattle.std.proofs.lemmas.List.{drop_all, drop_more}
use Rattle.ext_sums.specs.declared.sums.Listed.{Listed}
use Rattle.ext_available.specs.declared.offer.Offer.{Offer}
use Rattle.ext_available.proofs.CandidateLemmas.{OffersOn, offers_on_after, offers_on_last, offers_on_without}
use Rattle.ext_available.proofs.candidates.candidates.Goals as goal
use Rattle.ext_available.proofs.candidates.candidates.Goals.{in-Some+in_ok-allocated, in_default}

pub loop-line-preserved : goal.loop-line-preserved
loop-line-preserved c =
    let t = c.args.transfer.now in
    let all = c.args.lines.now in
    let i = c.loop-line.line-index in
    let line = c.line-item.result in
    let left = drop (i + 1) all in
    let done = c.loop-line.found.items in
    let parted : drop i all ≡ line ∷ left = drop_more all i line c.loop-line-test.true ∙ ap (λ (l : Listed). l ∷ left) (sym c.line-item.is) in
    let so_far = subst (λ (ls : List Listed). OffersOn t all ls done) parted c.loop-line.invariant.so_far in
    record {
      so_far = elim c.match-branch-2.branch [
        | in-Some+in_ok-allocated w ↦
            let pushed : w.push.new.self.items ≡ done ++ w.in-Some.offer ∷ [] = w.push.ensures.items ∙ ap (λ r. cond (is_ok r) (done ++ w.in-Some.offer ∷ []) done) w.in_ok-allocated.ensures in
            subst (OffersOn t all left) (sym (ap (λ (v : Vec Offer Global). v.items) w.found-is ∙ pushed)) (offers_on_after t all line left done c.in_ok-offer.field-0 w.in-Some.offer so_far c.in_ok-offer.ensures w.in-Some.is)
        | in_default w ↦
            subst (OffersOn t all left) (sym (ap (λ (v : Vec Offer Global). v.items) w.found-is)) (offers_on_without t all line left done c.in_ok-offer.field-0 so_far c.in_ok-offer.ensures w.in_default.is)
      ];
    }

pub returns : goal.returns
returns c =
    let t = c.args.transfer.now in
    let all = c.args.lines.now in
    offers_on_last t all c.loop-line.found.items
    (subst (λ (ls : List Listed). OffersOn t all ls c.loop-line.found.items) (drop_all c.loop-line.line-index all c.loop-line-test.false) c.loop-line.invariant.so_far)
