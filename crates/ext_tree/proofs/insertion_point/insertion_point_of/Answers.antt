use Rattle.std.proofs.Common.{rules}
use Rattle.std.proofs.lemmas.List.Sorted.{IsPartitionPoint-from_clause}
use Rattle.ext_text.specs.Order.{paths_total}
use Rattle.ext_text.specs.Path.{path_cmp}
use Rattle.ext_tree.specs.InsertionPoint.{is_past}
use Rattle.ext_tree.proofs.InsertionPointLemmas.{is_insertion_point, partitioned}
use Rattle.ext_tree.proofs.insertion_point.insertion_point_of.Goals as goal

pub returns-clause-index : goal.returns-clause-index
returns-clause-index g c =
    is_insertion_point path_cmp c.args.names.now c.args.entries.now c.partition_point.result c.partition_point.ensures.bound
    (IsPartitionPoint-from_clause (is_past path_cmp c.args.names.now) c.args.entries.now c.partition_point.result c.partition_point.ensures.partitioned
    (partitioned path_cmp paths_total c.args.names.now c.args.entries.now c.requires)
    (λ a r f h. search rules))
