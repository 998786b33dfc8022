use Rattle.std.proofs.Common.{◌≡◌, false, sym, ap, ◌∙◌}
use Rattle.std.proofs.lemmas.Result.{IfOk-weaker}
use Rattle.ext_tree.specs.Part.{part}
use Rattle.ext_find.specs.Image.{has_os_release, is_blocked}
use Rattle.ext_find.proofs.ImageLemmas.{whole_check}
use Rattle.ext_find.proofs.image.check_inside.Goals as goal

pub returns-else-has_os_release : goal.returns-else-has_os_release
returns-else-has_os_release g c =
    let free : is_blocked (part c.args.image.now c.args.base.now) c.args.class c.args.hierarchies.now ≡ false =
    ap (λ es. is_blocked es c.args.class c.args.hierarchies.now) (sym c.requires) ∙ ap (is_blocked c.args.inside.now c.args.class) (sym c.as_slice.ensures) ∙ sym c.is_blocked.ensures ∙ c.if-is_blocked.false
    in
    let plain : has_os_release (part c.args.image.now c.args.base.now) c.args.class ≡ false =
    ap (λ es. has_os_release es c.args.class) (sym c.requires) ∙ sym c.has_os_release.ensures ∙ c.if-has_os_release.false
    in
    IfOk-weaker c.check_release.result _ _
    (whole_check c.args.base.now c.args.image.now c.args.class c.args.hierarchies.now c.args.name.now free plain)
    c.check_release.ensures
