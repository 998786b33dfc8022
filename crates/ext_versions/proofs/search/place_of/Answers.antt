use Rattle.std.proofs.Common.{◌∙◌, ap, sym}
use Rattle.ext_versions.specs.Search.{is_found}
use Rattle.ext_versions.proofs.VersionsLemmas.{found_version, has_version-from}
use Rattle.ext_versions.proofs.search.place_of.Goals as goal

pub returns-then-is_at : goal.returns-then-is_at
returns-then-is_at c = found_version c.args.bytes.now _ (sym c.is_at.ensures ∙ c.if-is_at.true)

pub returns-else-is_at : goal.returns-else-is_at
returns-else-is_at c =
    has_version-from c.args.bytes.now c.args.versions.now c.requires
    ∙ ap (is_found c.args.bytes.now) (sym c.place_from-place.ensures) ∙ sym c.is_at.ensures ∙ c.if-is_at.false
