use Rattle.std.proofs.Common.{rules, ◌∙◌}
use Rattle.std.specs.Ordering.{is_lt}
use Rattle.std.proofs.lemmas.List.Sorted.{IsPartitionPoint-from_clause}
use Rattle.ext_text.specs.Path.{path_cmp}
use Rattle.ext_text.proofs.SortedPathsLemmas.{before_partitions, first_at_point}
use Rattle.ext_text.proofs.sorted_paths.first_from.Goals as goal

pub returns : goal.returns
returns c =
    c.path_at.ensures
    ∙ first_at_point c.args.names.now c.args.paths.now c.partition_point-index.result c.partition_point-index.ensures.bound
    (IsPartitionPoint-from_clause (λ p. is_lt (path_cmp p c.args.names.now)) c.args.paths.now c.partition_point-index.result c.partition_point-index.ensures.partitioned
    (before_partitions c.args.names.now c.args.paths.now c.requires)
    (λ a r f h. search rules))
