use Rattle.std.proofs.Common.{rules, ◌∙◌}
use Rattle.std.proofs.lemmas.List.Sorted.{IsPartitionPoint-from_clause}
use Rattle.ext_updated.specs.Putting.{is_earlier}
use Rattle.ext_updated.proofs.CopyingLemmas.{filter_point, rising}
use Rattle.ext_updated.proofs.copying.before.Goals as goal

pub returns : goal.returns
returns g c =
    c.split_at.ensures.front ∙ filter_point (λ e. is_earlier c.args.names.now e.0) c.args.pairs.now c.partition_point-count.result c.partition_point-count.ensures.bound
    (IsPartitionPoint-from_clause (λ e. is_earlier c.args.names.now e.0) c.args.pairs.now c.partition_point-count.result c.partition_point-count.ensures.partitioned
    (rising c.args.names.now c.args.pairs.now c.requires)
    (λ a r f h. search rules))
