use Rattle.std.proofs.Common.{rules, true, ◌∙◌}
use Rattle.std.proofs.lemmas.List.Sorted.{IsPartitionPoint-from_clause}
use Rattle.ext_text.specs.Path.{path_cmp}
use Rattle.ext_tree.specs.Slices.{is_before_name}
use Rattle.ext_tree.proofs.SlicesLemmas.{at_path, filter_point, rising, all_pass, before_down}
use Rattle.ext_tree.proofs.slices.from_name.Goals as goal

pub returns : goal.returns
returns g c =
    c.split_at.ensures.back ∙ (filter_point (at_path (is_before_name c.args.directory.now c.args.name.now)) c.args.entries.now c.partition_point-passed.result c.partition_point-passed.ensures.bound
    (IsPartitionPoint-from_clause (at_path (is_before_name c.args.directory.now c.args.name.now)) c.args.entries.now c.partition_point-passed.result c.partition_point-passed.ensures.partitioned
    (rising path_cmp (λ _. true) (is_before_name c.args.directory.now c.args.name.now) (λ x y less _. before_down _ x y less) c.args.entries.now c.requires (all_pass path_cmp c.args.entries.now))
    (λ a r f h. search rules))).1
