use Rattle.std.proofs.Common.{rules}
use Rattle.std.proofs.lemmas.List.Sorted.{IsPartitionPoint-from_clause}
use Rattle.ext_tree.specs.InsertionPoint.{is_past}
use Rattle.ext_tree.proofs.ForCallers.{is_insertion_point, partitioned}
use Rattle.ext_index_reader.specs.Homes.{home_cmp}
use Rattle.ext_index_reader.proofs.HomeListLemmas.{home_total}
use Rattle.ext_index_reader.proofs.home_lists.insertion_point_of.Goals as goal

pub returns-clause-index : goal.returns-clause-index
returns-clause-index c =
    is_insertion_point home_cmp c.args.home c.args.homes.now c.partition_point.result c.partition_point.ensures.bound
    (IsPartitionPoint-from_clause (is_past home_cmp c.args.home) c.args.homes.now c.partition_point.result c.partition_point.ensures.partitioned
    (partitioned home_cmp home_total c.args.home c.args.homes.now c.requires)
    (λ a r f h. search rules))
