use Rattle.std.proofs.Common.{rules}
use Rattle.std.specs.Ordering.{is_lt}
use Rattle.std.proofs.lemmas.List.Sorted.{IsPartitionPoint-from_clause}
use Rattle.ext_vers.specs.Version.{order_of}
use Rattle.ext_versions.proofs.VersionsLemmas.{before_splits, version_at_point}
use Rattle.ext_versions.proofs.search.place_from.Goals as goal

pub returns : goal.returns
returns c =
    version_at_point c.args.bytes.now c.args.versions.now c.partition_point.result c.partition_point.ensures.bound
    (IsPartitionPoint-from_clause
    (λ w. is_lt (order_of w c.args.bytes.now)) c.args.versions.now c.partition_point.result c.partition_point.ensures.partitioned
    (before_splits c.args.bytes.now c.args.versions.now c.requires)
    (λ a r f h. search rules))
