use Rattle.std.proofs.Common.{rules}
use Rattle.std.proofs.lemmas.List.Sorted.{IsPartitionPoint-from_clause}
use Rattle.ext_text.specs.Path.{path_cmp}
use Rattle.ext_tree.specs.InsertionPoint.{is_past}
use Rattle.ext_find.specs.Inside.{borrowed, seen_entry}
use Rattle.ext_find.proofs.InsideLemmas.{seen_partitioned, seen_point}
use Rattle.ext_find.proofs.inside.insertion_point_of.Goals as goal

pub returns : goal.returns
returns g c =
    seen_point c.args.depth (borrowed c.args.names.now) c.args.entries.now c.partition_point.result c.partition_point.ensures.bound
    (IsPartitionPoint-from_clause (λ e. is_past path_cmp (borrowed c.args.names.now) (seen_entry c.args.depth e)) c.args.entries.now c.partition_point.result c.partition_point.ensures.partitioned
    (seen_partitioned c.args.depth (borrowed c.args.names.now) c.args.entries.now c.requires)
    (λ a r f h. search rules))
