use Rattle.std.proofs.Common.{◌∙◌, ap, sym}
use Rattle.std.specs.List.{list_any}
use Rattle.std.proofs.lemmas.List.Sorted.{list_any-IsPermutation}
use Rattle.ext_port.proofs.staging.sorted_tops.Goals as goal

pub returns-clause-has : goal.returns-clause-has
returns-clause-has c = λ test.
    c.of.ensures.same test ∙ sym (list_any-IsPermutation test _ _ c.in_ok-sort.ensures.permutation) ∙ ap (list_any test) c.in_ok-tops.ensures
