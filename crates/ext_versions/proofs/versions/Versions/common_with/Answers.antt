use Rattle.std.proofs.Common.{subst, sym}
use Rattle.std.specs.List.Sorted.{IsStrictlySortedBy}
use Rattle.std.proofs.lemmas.List.Kept.{IsStrictlySortedBy-filter}
use Rattle.ext_vers.specs.Version.{order_of}
use Rattle.ext_versions.proofs.versions.Versions.common_with.Goals as goal

pub invariant_of-result : goal.invariant_of-result
invariant_of-result c =
    subst (IsStrictlySortedBy order_of) (sym c.common_with.ensures)
    (IsStrictlySortedBy-filter order_of _ c.self.inside.items.items c.self.invariant)
