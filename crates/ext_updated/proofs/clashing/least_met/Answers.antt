use Rattle.std.proofs.Common.{None, Some, ◌≡◌, ◌∙◌, ap, subst, sym}
use Rattle.std.proofs.lemmas.List.Sorted.{IsPermutation-sym}
use Rattle.ext_updated.specs.Steps.{IsLeastMet, first_met}
use Rattle.ext_updated.proofs.ClashLemmas.{are_sorted, least_met, least_permuted}
use Rattle.ext_updated.proofs.clashing.least_met.Goals as goal

pub returns-in-None : goal.returns-in-None
returns-in-None c =
    let sorted = c.sort_unstable.new.self.items in
    let is : first_met sorted ≡ None = ap first_met (sym c.as_slice.ensures.value) ∙ sym c.in-None.ensures in
    least_permuted c.args.paths.items sorted None c.sort_unstable.ensures.permutation (IsPermutation-sym _ _ c.sort_unstable.ensures.permutation)
    (subst (IsLeastMet sorted) is (least_met sorted (are_sorted sorted c.sort_unstable.ensures.sorted)))

pub returns : goal.returns
returns c =
    let sorted = c.sort_unstable.new.self.items in
    let is : first_met sorted ≡ Some c.in-Some.path.now = ap first_met (sym c.as_slice.ensures.value) ∙ sym c.in-Some.ensures in
    subst (λ r. IsLeastMet c.args.paths.items (Some r)) (sym c.in_ok-copy-in-Some.ensures)
    (least_permuted c.args.paths.items sorted (Some c.in-Some.path.now) c.sort_unstable.ensures.permutation (IsPermutation-sym _ _ c.sort_unstable.ensures.permutation)
    (subst (IsLeastMet sorted) is (least_met sorted (are_sorted sorted c.sort_unstable.ensures.sorted))))
