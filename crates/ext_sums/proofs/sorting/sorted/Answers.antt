use Rattle.std.proofs.Common.{length, rules, subst}
use Rattle.std.specs.List.{All}
use Rattle.std.specs.List.Sorted.{IsPermutation, IsStableBy}
use Rattle.std.proofs.lemmas.Fn.{always_returns_same}
use Rattle.std.proofs.lemmas.List.Sorted.{ranks_by}
use Rattle.std.proofs.lemmas.Result.{IfOk-at_ok}
use Rattle.ext_sums.specs.declared.merging.Numbered.{Numbered}
use Rattle.ext_sums.specs.Merging.{BeginWith}
use Rattle.ext_sums.specs.Sorting.{HasBytes}
use Rattle.ext_sums.proofs.SortingLemmas.{all_written, before_past, is_sorting, order_total}
use Rattle.ext_sums.proofs.sorting.sorted.Goals as goal

pub returns : goal.returns
returns c =
    let prefix = c.common_prefix.result.now in
    let count = length prefix in
    let ranks = ranks_by (order_total count) (λ (n : Numbered). n) in
    let sorts = IfOk-at_ok _ c.in_ok-allocated.ensures c.sort_by.ensures.sorted in
    let given = all_written count c.args.lines.len c.args.lines.items c.as_mut_slice.result.now c.set_keys.new.lines c.as_mut_slice.ensures.value c.set_keys.ensures.keys c.args.lines.ok.0 in
    is_sorting prefix c.args.lines.items c.sort_by.new.self.items
    (subst (BeginWith prefix) c.as_slice.ensures.value c.common_prefix.ensures)
    (subst (All (HasBytes count)) c.as_mut_slice.ensures.value c.set_keys.ensures.bytes)
    (subst (λ ns. IsPermutation ns c.sort_by.new.self.items) given c.sort_by.ensures.permutation)
    (sorts (before_past count) ranks (always_returns_same _ _ _ (λ a r f h. search rules)))
    (subst (λ ns. IsStableBy (before_past count) ns c.sort_by.new.self.items) given
    (c.sort_by.ensures.stable (before_past count) ranks (always_returns_same _ _ _ (λ a r f h. search rules))))
