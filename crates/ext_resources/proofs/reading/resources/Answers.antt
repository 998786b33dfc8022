use Rattle.std.proofs.Common.{◌≡◌, ℕ, ◌+◌, ◌∷◌, [], ◌++◌, List, drop, get_or, length, Option, Ok, Err, refl, subst, sym, ◌∙◌, arith}
use Rattle.std.specs.List.{AllByRecursion}
use Rattle.std.proofs.lemmas.List.{drop_all, drop_more}
use Rattle.ext_text.proofs.ForCallers.{all_append}
use Rattle.ext_depot.specs.Depot.{Files}
use Rattle.ext_resources.specs.Resources.{IsResource}
use Rattle.ext_resources.specs.Told.{TellsResources, AreToldAt, IsFirstUntaken, TellsResource}
use Rattle.ext_resources.specs.Wanted.{lacking_places}
use Rattle.ext_resources.proofs.LackingLemmas.{lacking_below}
use Rattle.ext_resources.proofs.ToldLemmas.{GoesOn, all_transfers, goes_on_after, goes_on_error, goes_on_first, goes_on_last, kept_still, told_so}
use Rattle.ext_resources.proofs.reading.resources.Goals as goal

pub loop-place-init : goal.loop-place-init
loop-place-init g c =
    let ts = c.args.transfers.now in
    let ss = c.args.offers.now in
    let v = c.args.version.now in
    let all = c.deref-place-items.result.now in
    let files = (g.P.Depot.state c.args.depot.now).contents in
    record {
      kept = record { contents = refl; count = omega arith };
      so_far = subst (GoesOn (TellsResource files ts ss v) all all) (sym c.new-found.ensures.items) (goes_on_first (TellsResource files ts ss v) all);
      each = subst (AllByRecursion (IsResource ts ss v)) (sym c.new-found.ensures.items) tt;
    }

pub resource_at-requires-clause-within : goal.resource_at-requires-clause-within
resource_at-requires-clause-within g c =
    let all = c.deref-place-items.result.now in
    let lacks : all ≡ lacking_places c.args.items.now c.args.version.now (length c.args.transfers.now) = rw c.deref-place-items.ensures.value c.in_ok-places.ensures in
    lacking_below c.args.items.now c.args.version.now (length c.args.transfers.now) c.deref-place-items.result.now c.loop-place.place-index lacks c.loop-place-test.true

pub returns-in-Err-clause-refused : goal.returns-in-Err-clause-refused
returns-in-Err-clause-refused g c =
    let ts = c.args.transfers.now in
    let ss = c.args.offers.now in
    let v = c.args.version.now in
    let all = c.deref-place-items.result.now in
    let lacks : all ≡ lacking_places c.args.items.now c.args.version.now (length c.args.transfers.now) = rw c.deref-place-items.ensures.value c.in_ok-places.ensures in
    let i = c.loop-place.place-index in
    let place = get_or all i 0 in
    let left = drop (i + 1) all in
    let done = c.loop-place.found.items in
    let files = (g.P.Depot.state c.args.depot.now).contents in
    let now = (g.P.Depot.state c.loop-place.depot).contents in
    let so_far = subst (λ (ns : List ℕ). GoesOn (TellsResource files ts ss v) all ns done) (drop_more all i 0 c.loop-place-test.true) c.loop-place.invariant.so_far in
    told_so (λ e. TellsResource now ts ss v place (Err e)) (λ e. TellsResources files ts ss c.args.items.now v (Err e))
    (λ e told.
    subst (λ (ns : List ℕ). IsFirstUntaken (TellsResource files ts ss v) ns e) lacks
    (goes_on_error (TellsResource files ts ss v) all place left done so_far e (subst (λ (f : Option Files). TellsResource f ts ss v place (Err e)) c.loop-place.invariant.kept.contents told)))
    c.in-Err.e c.in-Err.ensures.refused

pub loop-place-preserved : goal.loop-place-preserved
loop-place-preserved g c =
    let ts = c.args.transfers.now in
    let ss = c.args.offers.now in
    let v = c.args.version.now in
    let all = c.deref-place-items.result.now in
    let i = c.loop-place.place-index in
    let place = get_or all i 0 in
    let left = drop (i + 1) all in
    let done = c.loop-place.found.items in
    let r = c.in-Ok.resource in
    let files = (g.P.Depot.state c.args.depot.now).contents in
    let so_far = subst (λ (ns : List ℕ). GoesOn (TellsResource files ts ss v) all ns done) (drop_more all i 0 c.loop-place-test.true) c.loop-place.invariant.so_far in
    let told = subst (λ (f : Option Files). TellsResource f ts ss v place (Ok r)) c.loop-place.invariant.kept.contents c.in-Ok.ensures.gives in
    let pushed : c.push.new.self.items ≡ done ++ r ∷ [] = rw c.in_ok-allocated-in-Ok.ensures at c.push.ensures.items in
    record {
      kept = kept_still (g.P.Depot.state c.args.depot.now) (g.P.Depot.state c.loop-place.depot) (g.P.Depot.state c.resource_at.new.depot) c.loop-place.invariant.kept c.resource_at.ensures.kept;
      so_far = subst (GoesOn (TellsResource files ts ss v) all left) (sym pushed) (goes_on_after (TellsResource files ts ss v) all place left done r so_far told);
      each = subst (AllByRecursion (IsResource ts ss v)) (sym pushed) (all_append (IsResource ts ss v) done (r ∷ []) c.loop-place.invariant.each (c.in-Ok.ensures.resource, tt));
    }

pub returns-clause-gives : goal.returns-clause-gives
returns-clause-gives g c =
    let told = TellsResource (g.P.Depot.state c.args.depot.now).contents c.args.transfers.now c.args.offers.now c.args.version.now in
    let all = c.deref-place-items.result.now in
    let lacks : all ≡ lacking_places c.args.items.now c.args.version.now (length c.args.transfers.now) = rw c.deref-place-items.ensures.value c.in_ok-places.ensures in
    let done = c.loop-place.found.items in
    subst (λ (ns : List ℕ). AreToldAt told ns (Ok done)) lacks
    (goes_on_last told all done
    (subst (λ (ns : List ℕ). GoesOn told all ns done) (drop_all c.loop-place.place-index all c.loop-place-test.false) c.loop-place.invariant.so_far))

pub returns-clause-resources : goal.returns-clause-resources
returns-clause-resources g c =
    let files = (g.P.Depot.state c.args.depot.now).contents in
    let told = TellsResource files c.args.transfers.now c.args.offers.now c.args.version.now in
    let all = c.deref-place-items.result.now in
    let lacks : all ≡ lacking_places c.args.items.now c.args.version.now (length c.args.transfers.now) = rw c.deref-place-items.ensures.value c.in_ok-places.ensures in
    let done = c.loop-place.found.items in
    record {
      places =
          all_transfers files c.args.transfers.now c.args.offers.now c.args.version.now all done
          (goes_on_last told all done
          (subst (λ (ns : List ℕ). GoesOn told all ns done) (drop_all c.loop-place.place-index all c.loop-place-test.false) c.loop-place.invariant.so_far))
          ∙ lacks;
      each = c.loop-place.invariant.each;
    }
