use Rattle.std.proofs.Common.{sym, subst, rules}
use Rattle.std.proofs.lemmas.Fn.{always_returns_same}
use Rattle.std.proofs.lemmas.List.Sorted.{ranks_by}
use Rattle.std.proofs.lemmas.Result.{IfOk-at_ok}
use Rattle.std.specs.Ordering.{is_lt}
use Rattle.std.specs.List.Sorted.{IsPermutation}
use Rattle.ext_lines.specs.ByteOrder.{bytes_cmp, bytes_total}
use Rattle.ext_feature.specs.Steps.{IsInNameOrder}
use Rattle.ext_feature.specs.declared.feature.Feature.{Feature}
use Rattle.ext_feature.proofs.listing.in_name_order.Goals as goal

pub returns : goal.returns
returns c =
    let key = λ (f : Feature). f.name in
    let sorts = IfOk-at_ok _ c.in_ok-allocated.ensures c.sort_by.ensures.sorted in
    subst (IsInNameOrder c.args.features) (sym c.from_vec.ensures) (record {
      permutation = subst (λ xs. IsPermutation xs c.sort_by.new.self.items) c.into_vec-ordered.ensures c.sort_by.ensures.permutation;
      sorted = sorts (λ a b. is_lt (bytes_cmp (key a) (key b))) (ranks_by bytes_total key) (always_returns_same _ _ _ (λ a r f h. search rules));
    })
