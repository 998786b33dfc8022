use Rattle.std.proofs.Common.{subst, sym}
use Rattle.std.specs.List.Sorted.{IsStrictlySortedBy}
use Rattle.ext_vers.specs.Version.{order_of}
use Rattle.ext_versions.proofs.VersionsLemmas.{none_ascends}
use Rattle.ext_versions.proofs.versions.Versions.new.Goals as goal

pub invariant_of-result : goal.invariant_of-result
invariant_of-result c = subst (IsStrictlySortedBy order_of) (sym c.new.ensures.items) none_ascends
