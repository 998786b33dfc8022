use Rattle.std.proofs.Common.{rules, ◌∙◌, ℕ, List}
use Rattle.std.proofs.lemmas.List.Sorted.{IsPartitionPoint-from_clause}
use Rattle.ext_text.specs.Path.{path_cmp}
use Rattle.ext_tree.specs.declared.entry.Entry.{Entry}
use Rattle.ext_host.specs.Base.{comes_before}
use Rattle.ext_host.specs.Held.{HeldFile}
use Rattle.ext_host.proofs.NameLemmas.{before_down}
use Rattle.ext_host.proofs.SearchLemmas.{filter_point, rising}
use Rattle.ext_host.proofs.base.before.Goals as goal

pub returns : goal.returns
returns c =
    c.split_at.ensures.front ∙ (filter_point (λ (e : List (List ℕ) × Entry HeldFile). comes_before c.args.name.now e.0) c.args.pairs.now c.partition_point-count.result c.partition_point-count.ensures.bound
    (IsPartitionPoint-from_clause (λ (e : List (List ℕ) × Entry HeldFile). comes_before c.args.name.now e.0) c.args.pairs.now c.partition_point-count.result c.partition_point-count.ensures.partitioned
    (rising path_cmp (comes_before c.args.name.now) (before_down c.args.name.now) c.args.pairs.now c.requires)
    (λ a r f h. search rules))).0
