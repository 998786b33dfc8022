use Rattle.std.proofs.Common.{◌≡◌, ◌+◌, ◌∷◌, [], ◌++◌, List, cond, drop, Option, Ok, Err, ap, subst, sym, ◌∙◌}
use Rattle.std.specs.Result.{is_ok}
use Rattle.std.proofs.lemmas.List.{drop_all, drop_more}
use Rattle.ext_depot.specs.Depot.{Files}
use Rattle.ext_transfer.specs.declared.transfer.Transfer.{Transfer}
use Rattle.ext_available.specs.declared.offer.Offer.{Offer}
use Rattle.ext_available.specs.declared.offers_err.OffersErr.{OffersErr}
use Rattle.ext_available.specs.Reading.{AreTold, IsTold}
use Rattle.ext_available.proofs.ReadingLemmas.{GoesOn, goes_on_after, goes_on_error, goes_on_last, kept_still, told_so}
use Rattle.ext_available.proofs.reading.offers.Goals as goal

pub returns-in-Err-clause-refused : goal.returns-in-Err-clause-refused
returns-in-Err-clause-refused g c =
    let files = (g.P.Depot.state c.args.depot.now).contents in
    let now = (g.P.Depot.state c.loop-transfer.depot).contents in
    let all = c.args.transfers.now in
    let i = c.loop-transfer.transfer-index in
    let t = c.transfer-item.result in
    let left = drop (i + 1) all in
    let done = c.loop-transfer.all.items in
    let parted : drop i all ≡ t ∷ left = drop_more all i t c.loop-transfer-test.true ∙ ap (λ (x : Transfer). x ∷ left) (sym c.transfer-item.is) in
    let so_far = subst (λ (ts : List Transfer). GoesOn files all ts done) parted c.loop-transfer.invariant.so_far in
    told_so (λ e. IsTold now t (Err e)) (λ e. AreTold files all (Err e))
    (λ e told. goes_on_error files all t left done so_far e (subst (λ (f : Option Files). IsTold f t (Err e)) c.loop-transfer.invariant.kept.contents told))
    c.in-Err.e c.in-Err.ensures.refused

pub loop-transfer-preserved : goal.loop-transfer-preserved
loop-transfer-preserved g c =
    let files = (g.P.Depot.state c.args.depot.now).contents in
    let all = c.args.transfers.now in
    let i = c.loop-transfer.transfer-index in
    let t = c.transfer-item.result in
    let left = drop (i + 1) all in
    let done = c.loop-transfer.all.items in
    let os = c.in-Ok.offers in
    let parted : drop i all ≡ t ∷ left = drop_more all i t c.loop-transfer-test.true ∙ ap (λ (x : Transfer). x ∷ left) (sym c.transfer-item.is) in
    let so_far = subst (λ (ts : List Transfer). GoesOn files all ts done) parted c.loop-transfer.invariant.so_far in
    let told = subst (λ (f : Option Files). IsTold f t (Ok os)) c.loop-transfer.invariant.kept.contents c.in-Ok.ensures.gives in
    let pushed : c.push.new.self.items ≡ done ++ os ∷ [] = c.push.ensures.items ∙ ap (λ r. cond (is_ok r) (done ++ os ∷ []) done) c.in_ok-allocated-in-Ok.ensures in
    record {
      kept = kept_still (g.P.Depot.state c.args.depot.now) (g.P.Depot.state c.loop-transfer.depot) (g.P.Depot.state c.offers_in.new.depot) c.loop-transfer.invariant.kept c.offers_in.ensures.kept;
      so_far = subst (GoesOn files all left) (sym pushed) (goes_on_after files all t left done os so_far told);
    }

pub returns-clause-gives : goal.returns-clause-gives
returns-clause-gives g c =
    let files = (g.P.Depot.state c.args.depot.now).contents in
    let all = c.args.transfers.now in
    goes_on_last files all c.loop-transfer.all.items
    (subst (λ (ts : List Transfer). GoesOn files all ts c.loop-transfer.all.items) (drop_all c.loop-transfer.transfer-index all c.loop-transfer-test.false) c.loop-transfer.invariant.so_far)
