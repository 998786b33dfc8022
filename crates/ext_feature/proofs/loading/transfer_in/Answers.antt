use Rattle.std.proofs.Common.{◌≡◌, Ok, sym, ap, ◌∙◌}
use Rattle.ext_transfer.specs.Transfer.{transfer_of}
use Rattle.ext_feature.proofs.TransferLemmas.{file_of_transfer}
use Rattle.ext_feature.proofs.loading.transfer_in.Goals as goal

pub returns-in-Ok : goal.returns-in-Ok
returns-in-Ok c =
    let says : transfer_of c.args.file.now c.args.bytes.now c.args.basis.now.host c.args.basis.now.arch ≡ Ok c.in-Ok.transfer =
    ap (λ host. transfer_of c.args.file.now c.args.bytes.now host c.args.basis.now.arch) (sym c.as_ref.ensures.value) ∙ c.in-Ok.ensures.gives in
    let file : c.in-Ok.transfer.file ≡ c.args.file.now = file_of_transfer c.args.file.now c.args.bytes.now c.args.basis.now.host c.args.basis.now.arch c.in-Ok.transfer says in
    (sym file, ap (λ f. transfer_of f c.args.bytes.now c.args.basis.now.host c.args.basis.now.arch) file ∙ says)
