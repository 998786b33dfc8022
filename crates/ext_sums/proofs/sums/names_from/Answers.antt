use Rattle.std.proofs.Common.{rules, ap, ◌∙◌}
use Rattle.std.proofs.lemmas.List.Sorted.{IsPartitionPoint-from_clause}
use Rattle.ext_sums.specs.Sums.{comes_before, entries_of}
use Rattle.ext_sums.proofs.SumsLemmas.{from_split, partitioned}
use Rattle.ext_sums.proofs.sums.names_from.Goals as goal

pub returns : goal.returns
returns c =
    ap entries_of c.split_at.ensures.back
    ∙ from_split c.args.name.now c.args.listed.now c.partition_point-count.result c.partition_point-count.ensures.bound
    (IsPartitionPoint-from_clause (comes_before c.args.name.now) c.args.listed.now c.partition_point-count.result c.partition_point-count.ensures.partitioned
    (partitioned c.args.name.now c.args.listed.now c.requires)
    (λ a r f h. search rules))
