use Rattle.std.proofs.Common.{rules, not, true, ◌∙◌}
use Rattle.std.proofs.lemmas.List.Sorted.{IsPartitionPoint-from_clause}
use Rattle.std.proofs.lemmas.List.Elements.{filter_agree}
use Rattle.std.proofs.Math.Bool.{not-not}
use Rattle.ext_text.specs.Path.{path_cmp}
use Rattle.ext_tree.specs.Slices.{is_after}
use Rattle.ext_tree.proofs.SlicesLemmas.{at_path, filter_point, rising, all_pass, after_down}
use Rattle.ext_tree.proofs.slices.count_through.Goals as goal

pub returns-clause-after : goal.returns-clause-after
returns-clause-after g c =
    (filter_point (at_path (λ q. not (is_after c.args.names.now q))) c.args.entries.now c.partition_point.result c.partition_point.ensures.bound
    (IsPartitionPoint-from_clause (at_path (λ q. not (is_after c.args.names.now q))) c.args.entries.now c.partition_point.result c.partition_point.ensures.partitioned
    (rising path_cmp (λ _. true) (λ q. not (is_after c.args.names.now q)) (λ x y less _. after_down c.args.names.now x y less) c.args.entries.now c.requires (all_pass path_cmp c.args.entries.now))
    (λ a r f h. search rules))).1
    ∙ filter_agree (at_path (λ q. not (not (is_after c.args.names.now q)))) (at_path (is_after c.args.names.now)) (λ e. not-not (is_after c.args.names.now e.0)) c.args.entries.now
