use Rattle.std.proofs.Common.{[], ◌∷◌, is_some, sym, ap, ◌∙◌}
use Rattle.ext_tree.specs.Tree.{lookup}
use Rattle.ext_find.specs.Image.{has_os_release}
use Rattle.ext_find.proofs.ImageLemmas.{copied_some}
use Rattle.ext_find.proofs.image.has_os_release.Goals as goal

pub returns-in-Sysext : goal.returns-in-Sysext
returns-in-Sysext g c =
    c.is_some.ensures ∙ copied_some c.get.result
    ∙ ap is_some (c.get.ensures ∙ ap (lookup c.args.inside.now) (λ i. c.as_slice.ensures i ∷ c.as_slice-in-Sysext.ensures i ∷ c.as_slice-in-Sysext-2.ensures i ∷ []))
    ∙ ap (has_os_release c.args.inside.now) (sym c.in-Sysext.is)
