use Rattle.std.proofs.Common.{◌≡◌, ◌++◌, ◌∷◌, [], Err, ap, ◌∙◌, subst, arith, cond, is_ok}
use Rattle.ext_feature.specs.Active.{SaysTransfer}
use Rattle.ext_feature.specs.Reading.{FileSays, ReadsTransferFile}
use Rattle.ext_feature.proofs.ReadingLemmas.{transfer_fails, zip_more}
use Rattle.ext_feature.proofs.loading.read_transfers.Goals as goal

pub returns-in-Err-clause-gives : goal.returns-in-Err-clause-gives
returns-in-Err-clause-gives g c =
    let told = g.H.Shelf.told c.args.shelf.now in
    let old = g.H.Shelf.faults c.args.shelf.now in
    let mid = g.H.Shelf.faults c.loop-file.shelf in
    let new = g.H.Shelf.faults c.transfer_of.new.shelf in
    let same : g.H.Shelf.told c.loop-file.shelf ≡ told = λ i held. g.met.H.Shelf.stays_laws.tells c.args.shelf.now c.loop-file.shelf held c.loop-file.invariant.stays i in
    transfer_fails told old mid new c.loop-file.invariant.count c.args.files.now c.loop-file.file-index c.file-item.result c.loop-file-test.true c.file-item.is
    c.args.basis.now.arch c.args.basis.now.host c.loop-file.transfers.items c.in-Err.failed c.loop-file.invariant.read
    (subst (λ t. ReadsTransferFile t mid new c.args.basis.now.arch c.args.basis.now.host c.file-item.result (Err c.in-Err.failed)) same c.in-Err.ensures.gives)

pub loop-file-preserved : goal.loop-file-preserved
loop-file-preserved g c =
    let told = g.H.Shelf.told c.args.shelf.now in
    let R = FileSays told (λ transfer. transfer.file) (SaysTransfer c.args.basis.now.arch c.args.basis.now.host) in
    let stays = c.loop-file.invariant.stays in
    let same : g.H.Shelf.told c.loop-file.shelf ≡ told = λ i held. g.met.H.Shelf.stays_laws.tells c.args.shelf.now c.loop-file.shelf held stays i in record {
      read = zip_more R c.args.files.now c.loop-file.file-index c.file-item.result c.loop-file.transfers.items c.in-Ok.transfer c.push.new.self.items c.loop-file-test.true c.file-item.is c.loop-file.invariant.read
          (subst (λ t. FileSays t (λ transfer. transfer.file) (SaysTransfer c.args.basis.now.arch c.args.basis.now.host) c.file-item.result c.in-Ok.transfer) same c.in-Ok.ensures.gives)
          (c.push.ensures.items ∙ ap (λ r. cond (is_ok r) (c.loop-file.transfers.items ++ c.in-Ok.transfer ∷ []) c.loop-file.transfers.items) c.in_ok-allocated-in-Ok.ensures);
      stays = g.met.H.Shelf.stays_laws.through _ _ _ stays c.in-Ok.ensures.stays;
      count = omega (arith, c.in-Ok.ensures.count, c.loop-file.invariant.count);
    }
