use Rattle.std.proofs.Common.{sym, subst}
use Rattle.std.specs.Prelude.{IfOk}
use Rattle.ext_units.specs.Image.{ImagePlace}
use Rattle.ext_units.proofs.image.image_at.Goals as goal

pub returns-in-At-clause-place : goal.returns-in-At-clause-place
returns-in-At-clause-place c =
    subst (λ image. IfOk c.place_of_path.result (ImagePlace c.args.base.now c.args.arch image)) (sym c.in-At.is) (c.place_of_path.ensures.place c.args.arch)
