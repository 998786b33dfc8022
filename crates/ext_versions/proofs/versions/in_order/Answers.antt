use Rattle.std.proofs.lemmas.List.Filters.{dedup_is}
use Rattle.ext_versions.proofs.VersionsLemmas.{are_versions}
use Rattle.ext_versions.proofs.versions.in_order.Goals as goal

pub returns : goal.returns
returns c =
    rw (dedup_is _ _ _ c.dedup.ensures.filtered) (are_versions _ _ c.sort_unstable.ensures.permutation c.sort_unstable.ensures.sorted)
