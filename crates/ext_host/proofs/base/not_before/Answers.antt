use Rattle.std.proofs.Common.{rules, ◌≡◌, not, ◌∙◌, ℕ, List, true, sym, subst}
use Rattle.std.proofs.lemmas.List.Sorted.{IsPartitionPoint-from_clause}
use Rattle.std.proofs.lemmas.Float.{T_from_true}
use Rattle.std.specs.FinMap.{is_sorted}
use Rattle.std.specs.FinMap.Entries.{is_sorted-where_key}
use Rattle.ext_text.specs.Path.{path_cmp}
use Rattle.ext_text.proofs.ForCallers.{true_from_T}
use Rattle.ext_tree.specs.declared.entry.Entry.{Entry}
use Rattle.ext_host.specs.Base.{comes_before}
use Rattle.ext_host.specs.Held.{HeldFile}
use Rattle.ext_host.proofs.NameLemmas.{before_down}
use Rattle.ext_host.proofs.SearchLemmas.{filter_point, rising}
use Rattle.ext_host.proofs.base.not_before.Goals as goal

pub returns-clause-same : goal.returns-clause-same
returns-clause-same c =
    c.split_at.ensures.back ∙ (filter_point (λ (e : List (List ℕ) × Entry HeldFile). comes_before c.args.name.now e.0) c.args.pairs.now c.partition_point-count.result c.partition_point-count.ensures.bound
    (IsPartitionPoint-from_clause (λ (e : List (List ℕ) × Entry HeldFile). comes_before c.args.name.now e.0) c.args.pairs.now c.partition_point-count.result c.partition_point-count.ensures.partitioned
    (rising path_cmp (comes_before c.args.name.now) (before_down c.args.name.now) c.args.pairs.now c.requires)
    (λ a r f h. search rules))).1

pub returns-clause-sorted : goal.returns-clause-sorted
returns-clause-sorted c =
    subst (λ es. is_sorted path_cmp es ≡ true) (sym (returns-clause-same c)) (true_from_T _ (is_sorted-where_key path_cmp (λ path. not (comes_before c.args.name.now path)) c.args.pairs.now (T_from_true _ c.requires)))
