use Rattle.std.proofs.Common.{rules, not, ◌∙◌, ap, filter}
use Rattle.std.specs.FinMap.Entries.{is_sorted-where_key}
use Rattle.std.proofs.lemmas.Float.{T_from_true}
use Rattle.std.proofs.lemmas.List.Sorted.{IsPartitionPoint-from_clause}
use Rattle.ext_text.specs.Path.{path_cmp}
use Rattle.ext_text.proofs.ForCallers.{true_from_T}
use Rattle.ext_tree.specs.Slices.{is_before_name, is_named}
use Rattle.ext_tree.proofs.SlicesLemmas.{at_path, filter_point, filter_keeps, rising, where_all, named_down, named_kept}
use Rattle.ext_tree.proofs.slices.named.Goals as goal

pub returns : goal.returns
returns g c =
    c.split_at.ensures.front ∙ (filter_point (at_path (is_named c.args.directory.now c.args.start.now)) c.from_name-rest.result.now c.partition_point-count.result c.partition_point-count.ensures.bound
    (IsPartitionPoint-from_clause (at_path (is_named c.args.directory.now c.args.start.now)) c.from_name-rest.result.now c.partition_point-count.result c.partition_point-count.ensures.partitioned
    (rw c.from_name-rest.ensures (rising path_cmp (λ q. not (is_before_name c.args.directory.now c.args.start.now q)) (is_named c.args.directory.now c.args.start.now) (named_down c.args.directory.now c.args.start.now) _
    (true_from_T _ (is_sorted-where_key path_cmp (λ q. not (is_before_name c.args.directory.now c.args.start.now q)) c.args.entries.now (T_from_true _ c.requires)))
    (where_all path_cmp (λ q. not (is_before_name c.args.directory.now c.args.start.now q)) c.args.entries.now)))
    (λ a r f h. search rules))).0
    ∙ ap (filter (at_path (is_named c.args.directory.now c.args.start.now))) c.from_name-rest.ensures
    ∙ filter_keeps (at_path (is_named c.args.directory.now c.args.start.now)) (at_path (λ q. not (is_before_name c.args.directory.now c.args.start.now q))) (λ e. named_kept c.args.directory.now c.args.start.now e.0) c.args.entries.now
