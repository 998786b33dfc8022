use Rattle.std.proofs.Common.{◌++◌, sym, ap, ◌∙◌, subst}
use Rattle.std.specs.List.{AllByRecursion}
use Rattle.ext_text.specs.Name.{IsName}
use Rattle.ext_text.specs.Path.{IsPath, path_parts}
use Rattle.ext_walk.specs.Walk.{parts}
use Rattle.ext_find.specs.ExtensionRelease.{release_text}
use Rattle.ext_find.proofs.ImageLemmas.{file_itself, file_path, lower_path, text_parts}
use Rattle.ext_find.proofs.image.own_release.Goals as goal

pub of_text-names-requires : goal.of_text-names-requires
of_text-names-requires g c =
    let full = file_path c.args.base.now c.pairs-entries.ensures.tree.tree c.args.image.now (parts (release_text c.args.class c.args.name.now)) c.requires in
    let is = ap path_parts (c.as_slice.ensures.value ∙ c.in_ok-text.ensures) ∙ text_parts c.args.class c.args.name.now in
    subst (AllByRecursion IsName) (sym is) (lower_path c.args.image.now (parts (release_text c.args.class c.args.name.now)) full).each

pub path_below-requires : goal.path_below-requires
path_below-requires g c =
    let full = file_path c.args.base.now c.pairs-entries.ensures.tree.tree c.args.image.now (parts (release_text c.args.class c.args.name.now)) c.requires in
    let is = c.of_text-names.ensures ∙ ap path_parts (c.as_slice.ensures.value ∙ c.in_ok-text.ensures) ∙ text_parts c.args.class c.args.name.now in
    subst (λ names. IsPath (c.args.image.now ++ names)) (sym is) full

pub returns : goal.returns
returns g c =
    let is = c.of_text-names.ensures ∙ ap path_parts (c.as_slice.ensures.value ∙ c.in_ok-text.ensures) ∙ text_parts c.args.class c.args.name.now in
    file_itself c.args.base.now c.pairs-entries.ensures.tree.tree c.args.image.now (parts (release_text c.args.class c.args.name.now)) c.in_ok-path_below.field-0 c.requires
    (c.in_ok-path_below.ensures ∙ ap (λ names. c.args.image.now ++ names) is)
