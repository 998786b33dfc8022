use Rattle.std.proofs.Common.{subst, sym}
use Rattle.std.specs.List.Sorted.{IsStrictlySortedBy}
use Rattle.ext_vers.specs.Version.{order_of}
use Rattle.ext_versions.proofs.VersionsLemmas.{first_ascend}
use Rattle.ext_versions.proofs.versions.Versions.first.Goals as goal

pub invariant_of-result : goal.invariant_of-result
invariant_of-result c =
    subst (IsStrictlySortedBy order_of) (sym c.first.ensures) (first_ascend c.args.count c.self.inside.items.items c.self.invariant)
