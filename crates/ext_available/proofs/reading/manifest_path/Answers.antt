use Rattle.std.proofs.Common.{ℕ, ◌<◌, length, Err, arith, subst}
use Rattle.ext_text.specs.Path.{Lengthens, path_text}
use Rattle.ext_text.specs.declared.path.PathErr.{PathErr}
use Rattle.ext_available.specs.Reading.{manifest_path}
use Rattle.ext_available.proofs.ReadingLemmas.{manifest_fits, manifest_named}
use Rattle.ext_available.proofs.reading.manifest_path.Goals as goal

pub child_of-requires : goal.child_of-requires
child_of-requires c = manifest_named

pub unreachable-requires : goal.unreachable-requires
unreachable-requires c =
    let t = c.args.transfer.now in
    let over : 4096 < length (path_text (manifest_path t)) = subst (λ (e : PathErr). Lengthens (manifest_path t) (Err e)) c.in-Err-TooLong.field-0-is c.in-Err-TooLong.ensures in
    omega (arith, over, (manifest_fits t c.requires).1)
