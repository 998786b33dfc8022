use Rattle.std.proofs.Common.{sym, ◌∙◌}
use Rattle.std.specs.Prelude.{nat_eq}
use Rattle.std.specs.Cmp.Lexicographic.{lists_ties, pointwise, texts_ties}
use Rattle.std.proofs.lemmas.List.Filters.{dedup_is}
use Rattle.std.proofs.lemmas.List.Kept.{IsStrictlySortedBy-dedup}
use Rattle.std.proofs.lemmas.List.Sorted.{list_any-IsPermutation}
use Rattle.ext_lines.specs.ByteOrder.{bytes_cmp}
use Rattle.ext_text.specs.Order.{paths_total}
use Rattle.ext_text.proofs.PrefixLemmas.{same_path}
use Rattle.ext_text.proofs.SortedPathsLemmas.{any-dedup}
use Rattle.ext_text.proofs.sorted_paths.in_order.Goals as goal

pub returns-clause-sorted : goal.returns-clause-sorted
returns-clause-sorted c =
    rw (dedup_is _ _ _ c.dedup.ensures.filtered) (IsStrictlySortedBy-dedup paths_total (lists_ties bytes_cmp texts_ties) _ c.sort_unstable.ensures.sorted)

pub returns-clause-same : goal.returns-clause-same
returns-clause-same c = λ test.
    rw (dedup_is _ _ _ c.dedup.ensures.filtered)
    (any-dedup (pointwise (pointwise nat_eq)) (λ p q same. same_path p q (sym (lists_ties bytes_cmp texts_ties p q) ∙ same)) test _
    ∙ sym (list_any-IsPermutation test _ _ c.sort_unstable.ensures.permutation))
