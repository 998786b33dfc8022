use Rattle.std.proofs.Common.{◌∙◌, ap, sym}
use Rattle.ext_versions.specs.Search.{is_found}
use Rattle.ext_versions.proofs.VersionsLemmas.{has_version-from}
use Rattle.ext_versions.proofs.search.has_version.Goals as goal

pub returns : goal.returns
returns c =
    c.is_at.ensures ∙ ap (is_found c.args.bytes.now) c.place_from-place.ensures ∙ sym
    (has_version-from c.args.bytes.now c.args.versions.now c.requires)
