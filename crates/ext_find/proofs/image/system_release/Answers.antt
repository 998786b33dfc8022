use Rattle.std.proofs.Common.{[], ◌∷◌, ◌++◌, sym, ap, ◌∙◌}
use Rattle.std.specs.Prelude.{codes}
use Rattle.ext_text.specs.declared.extension.Extension.TheVariants as extensions
use Rattle.ext_tree.specs.Tree.{lookup}
use Rattle.ext_walk.specs.Walk.{parts}
use Rattle.ext_find.specs.Content.{is_file_at}
use Rattle.ext_find.specs.ExtensionRelease.{release_text}
use Rattle.ext_find.proofs.ImageLemmas.{system_parts}
use Rattle.ext_find.proofs.image.system_release.Goals as goal

pub own_release-requires : goal.own_release-requires
own_release-requires g c =
    let own = c.as_slice-4.ensures.value ∙ c.in_ok-file.ensures ∙ ap (λ n. codes "extension-release." ++ n) c.bytes.ensures.same in
    ap (λ es. is_file_at (lookup es (parts (release_text extensions.Sysext c.args.name.now)))) (sym c.requires)
    ∙ ap (λ ns. is_file_at (lookup c.args.inside.now ns)) (system_parts c.args.name.now c.bytes.ensures.name ∙ sym (λ i. c.as_slice.ensures i ∷ c.as_slice-2.ensures i ∷ c.as_slice-3.ensures i ∷ own i ∷ []))
    ∙ sym c.is_file_inside.ensures ∙ c.if-is_file_inside.true
