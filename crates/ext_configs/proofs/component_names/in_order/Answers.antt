use Rattle.std.proofs.Common.{subst}
use Rattle.std.specs.Prelude.{nat_eq}
use Rattle.std.specs.Cmp.Lexicographic.{nat_list_eq_equiv, pointwise, texts_ties}
use Rattle.std.specs.List.{Contains}
use Rattle.std.proofs.lemmas.List.Filters.{dedup_is}
use Rattle.std.proofs.lemmas.List.Kept.{Contains-dedup, Contains-from_dedup, IsStrictlySortedBy-dedup}
use Rattle.std.proofs.lemmas.List.Sorted.{Contains-permutation, IsPermutation-sym}
use Rattle.ext_lines.specs.ByteOrder.{bytes_total}
use Rattle.ext_configs.proofs.ListedLemmas.{untied}
use Rattle.ext_configs.proofs.component_names.in_order.Goals as goal

pub returns-clause-sorted : goal.returns-clause-sorted
returns-clause-sorted c =
    rw (dedup_is _ _ _ c.dedup.ensures.filtered) (IsStrictlySortedBy-dedup bytes_total texts_ties _ c.sort_unstable.ensures.sorted)

pub returns-clause-whole : goal.returns-clause-whole
returns-clause-whole c = λ name among.
    rw (dedup_is _ _ _ c.dedup.ensures.filtered)
    (Contains-dedup nat_list_eq_equiv untied _ name (Contains-permutation _ _ name c.sort_unstable.ensures.permutation among))

pub returns-clause-alone : goal.returns-clause-alone
returns-clause-alone c = λ name among.
    Contains-permutation _ _ name (IsPermutation-sym _ _ c.sort_unstable.ensures.permutation)
    (Contains-from_dedup (pointwise nat_eq) _ name (subst (λ l. Contains l name) (dedup_is _ _ _ c.dedup.ensures.filtered) among))
