use Rattle.std.proofs.Common.{rules, not, ◌&&◌, ◌∙◌, ℕ, List, ap}
use Rattle.std.specs.List.{filter}
use Rattle.std.proofs.lemmas.List.Elements.{filter_agree}
use Rattle.std.proofs.lemmas.List.Sorted.{IsPartitionPoint-from_clause}
use Rattle.ext_text.specs.Path.{path_cmp}
use Rattle.ext_tree.specs.declared.entry.Entry.{Entry}
use Rattle.ext_host.specs.Base.{comes_after, comes_before, stands_at}
use Rattle.ext_host.specs.Held.{HeldFile}
use Rattle.ext_host.proofs.NameLemmas.{after_down, neither}
use Rattle.ext_host.proofs.SearchLemmas.{filter_both, filter_point, rising}
use Rattle.ext_host.proofs.base.at_name.Goals as goal

pub returns : goal.returns
returns c =
    c.split_at.ensures.front ∙ (filter_point (λ (e : List (List ℕ) × Entry HeldFile). not (comes_after c.args.name.now e.0)) c.not_before-rest.result.now c.partition_point-count.result c.partition_point-count.ensures.bound
    (IsPartitionPoint-from_clause (λ (e : List (List ℕ) × Entry HeldFile). not (comes_after c.args.name.now e.0)) c.not_before-rest.result.now c.partition_point-count.result c.partition_point-count.ensures.partitioned
    (rising path_cmp (λ q. not (comes_after c.args.name.now q)) (after_down c.args.name.now) c.not_before-rest.result.now c.not_before-rest.ensures.sorted)
    (λ a r f h. search rules))).0
    ∙ ap (filter (λ (e : List (List ℕ) × Entry HeldFile). not (comes_after c.args.name.now e.0))) c.not_before-rest.ensures.same
    ∙ filter_both (λ (e : List (List ℕ) × Entry HeldFile). not (comes_after c.args.name.now e.0)) (λ e. not (comes_before c.args.name.now e.0)) c.args.pairs.now
    ∙ filter_agree (λ (e : List (List ℕ) × Entry HeldFile). not (comes_before c.args.name.now e.0) && not (comes_after c.args.name.now e.0)) (λ e. stands_at c.args.name.now e.0) (λ e. neither c.args.name.now e.0) c.args.pairs.now
