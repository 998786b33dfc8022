use Rattle.std.proofs.Common.{rules, true}
use Rattle.std.proofs.lemmas.List.Sorted.{IsPartitionPoint-from_clause}
use Rattle.std.specs.Ordering.{is_lt}
use Rattle.ext_text.specs.Path.{path_cmp}
use Rattle.ext_tree.proofs.SlicesLemmas.{at_path, filter_point, rising, all_pass, before_down}
use Rattle.ext_tree.proofs.graft.count_before.Goals as goal

pub returns-clause-before : goal.returns-clause-before
returns-clause-before g c =
    (filter_point (at_path (λ q. is_lt (path_cmp q c.args.names.now))) c.args.entries.now c.partition_point.result c.partition_point.ensures.bound
    (IsPartitionPoint-from_clause (at_path (λ q. is_lt (path_cmp q c.args.names.now))) c.args.entries.now c.partition_point.result c.partition_point.ensures.partitioned
    (rising path_cmp (λ _. true) (λ q. is_lt (path_cmp q c.args.names.now)) (λ x y less _. before_down c.args.names.now x y less) c.args.entries.now c.requires (all_pass path_cmp c.args.entries.now))
    (λ a r f h. search rules))).0
