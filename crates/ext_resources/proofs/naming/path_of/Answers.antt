use Rattle.std.proofs.Common.{◌<◌, [], ◌∷◌, ◌++◌, length, Err, arith, subst}
use Rattle.ext_text.specs.Path.{Lengthens, path_text}
use Rattle.ext_text.specs.declared.path.PathErr.{PathErr}
use Rattle.ext_resources.proofs.OfferLemmas.{path_fits}
use Rattle.ext_resources.proofs.naming.path_of.Goals as goal

pub unreachable-requires : goal.unreachable-requires
unreachable-requires c =
    let path = c.args.transfer.now.source.path ++ c.args.name.now ∷ [] in
    let over : 4096 < length (path_text path) = subst (λ (e : PathErr). Lengthens path (Err e)) c.in-Err-TooLong.field-0-is c.in-Err-TooLong.ensures in
    omega (arith, over, (path_fits c.args.transfer.now c.args.name.now c.requires.bounds c.requires.named).1)
