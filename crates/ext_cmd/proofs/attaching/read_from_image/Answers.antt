use Rattle.std.proofs.Common.{List, ◌+◌, refl, subst}
use Rattle.std.proofs.lemmas.Result.{err_from_is_err_and}
use Rattle.ext_cmd.specs.Grammar.{TakesAfter}
use Rattle.ext_cmd.specs.Reading.{RefusesWords}
use Rattle.ext_cmd.specs.declared.portable.AttachOption.{AttachOption}
use Rattle.ext_cmd.proofs.AttachLemmas.{image_refused, rest_refused}
use Rattle.ext_cmd.proofs.attaching.read_from_image.Goals as goal

pub returns-in_err-image : goal.returns-in_err-image
returns-in_err-image c =
    let p = err_from_is_err_and c.from_residual.result c.from_residual.ensures.1 in
    rw (p.1, p.2) (image_refused c.args.before c.args.word.now c.args.more.now c.args.place _ c.requires.plain c.in_err-image.ensures)

pub returns-in_err-after : goal.returns-in_err-after
returns-in_err-after c =
    let p = err_from_is_err_and c.from_residual-in_err-after.result c.from_residual-in_err-after.ensures.1 in
    let image = c.in_ok-image.ensures in
    rw (p.1, p.2) (rest_refused c.args.before c.in_ok-image.image c.args.word.now c.args.more.now c.args.place _ _ refl image.0 image.1
    (subst (λ (options : List AttachOption). RefusesWords (TakesAfter options) c.args.more.now (c.args.place + 1) c.in_err-after.field-0.0) c.as_slice.ensures c.in_err-after.ensures))
