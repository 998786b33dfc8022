use Rattle.std.proofs.Common.{◌≡◌, ℕ, length, ◌++◌, ◌∷◌, [], Ok, Err, ap, ◌∙◌, subst, arith, cond, is_ok}
use Rattle.ext_portext.specs.Steps.{ReadsExtension}
use Rattle.ext_portext.proofs.FailLemmas.{counted_more, extending_more, fails_at}
use Rattle.ext_portext.proofs.reading.read_all.Goals as goal

pub returns-in-Err-clause-gives : goal.returns-in-Err-clause-gives
returns-in-Err-clause-gives g c =
    let told = g.H.Shelf.told c.args.shelf.now in
    let old = g.H.Shelf.faults c.args.shelf.now in
    let mid = g.H.Shelf.faults c.loop-image.shelf in
    let new = g.H.Shelf.faults c.read_one.new.shelf in
    let look = c.args.look.now in
    let was = c.loop-image.invariant in
    let same : g.H.Shelf.told c.loop-image.shelf ≡ told = λ i held. g.met.H.Shelf.stays_laws.tells c.args.shelf.now c.loop-image.shelf held was.stays i in
    let counted : c.len-at.result ≡ length c.loop-image.all.items = omega (arith, c.len-at.ensures, c.loop-image.all.ok.0) in
    fails_at told look.host.now look.base.now look.release.now old mid new was.risen c.args.images.now c.loop-image.image-index c.image-item.result c.loop-image-test.true c.image-item.is
    c.loop-image.all.items was.fit was.counted c.in-Err.failed
    (subst (λ (n : ℕ). ReadsExtension told look.host.now look.base.now look.release.now mid new n c.image-item.result (Err c.in-Err.failed)) counted
    (subst (λ t. ReadsExtension t look.host.now look.base.now look.release.now mid new c.len-at.result c.image-item.result (Err c.in-Err.failed)) same c.in-Err.ensures.gives))

pub loop-image-preserved : goal.loop-image-preserved
loop-image-preserved g c =
    let told = g.H.Shelf.told c.args.shelf.now in
    let look = c.args.look.now in
    let was = c.loop-image.invariant in
    let same : g.H.Shelf.told c.loop-image.shelf ≡ told = λ i held. g.met.H.Shelf.stays_laws.tells c.args.shelf.now c.loop-image.shelf held was.stays i in
    let pushed : c.push.new.self.items ≡ c.loop-image.all.items ++ c.in-Ok.extending ∷ [] =
    c.push.ensures.items ∙ ap (λ r. cond (is_ok r) (c.loop-image.all.items ++ c.in-Ok.extending ∷ []) c.loop-image.all.items) c.in_ok-allocated-in-Ok.ensures
    in
    record {
      fit = extending_more told look.host.now look.base.now look.release.now c.args.images.now c.loop-image.image-index c.image-item.result c.loop-image-test.true c.image-item.is
          c.loop-image.all.items c.in-Ok.extending c.push.new.self.items pushed was.fit
          (subst (λ t. ReadsExtension t look.host.now look.base.now look.release.now (g.H.Shelf.faults c.loop-image.shelf) (g.H.Shelf.faults c.read_one.new.shelf) c.len-at.result c.image-item.result (Ok c.in-Ok.extending)) same c.in-Ok.ensures.gives);
      counted = counted_more c.loop-image.all.items c.in-Ok.extending c.push.new.self.items pushed c.loop-image.image-index was.counted;
      stays = g.met.H.Shelf.stays_laws.through _ _ _ was.stays c.in-Ok.ensures.stays;
      risen = omega (arith, c.in-Ok.ensures.count, was.risen);
    }
