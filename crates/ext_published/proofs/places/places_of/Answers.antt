use Rattle.std.proofs.Common.{◌∙◌}
use Rattle.std.proofs.lemmas.Result.{err_from_is_err_and}
use Rattle.ext_published.proofs.PlacesLemmas.{are_places, coming_err}
use Rattle.ext_published.proofs.WordLemmas.{coming_manifest_is_name, manifest_is_name}
use Rattle.ext_published.proofs.places.places_of.Goals as goal

pub child_of-requires : goal.child_of-requires
child_of-requires c = coming_manifest_is_name

pub child_of-requires-2 : goal.child_of-requires-2
child_of-requires-2 c = manifest_is_name

pub returns-in_err-coming : goal.returns-in_err-coming
returns-in_err-coming c =
    let p = err_from_is_err_and c.from_residual.result c.from_residual.ensures.1 in
    rw (p.1, p.2) (coming_err c.args.asked.now c.folder-folder.result.now _ c.folder-folder.ensures.same c.in_err-coming.ensures)

pub returns : goal.returns
returns c =
    are_places c.args.asked.now c.folder-folder.result.now c.bytes.result.now c.bytes-2.result.now c.in_ok-manifest.manifest c.in_ok-coming.coming c.in_ok-text.text c.in_ok-resource.resource
    c.folder-folder.ensures.same (c.bytes.ensures.same ∙ c.tree_text_name.ensures) (c.bytes-2.ensures.same ∙ c.name.ensures.same)
    c.in_ok-manifest.ensures c.in_ok-coming.ensures c.in_ok-text.ensures c.in_ok-resource.ensures
