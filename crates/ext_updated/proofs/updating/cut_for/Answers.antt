use Rattle.std.proofs.Common.{◌≡◌, ◌++◌, ◌∙◌, ℕ, Bool, List, ap, subst, sym}
use Rattle.std.specs.List.{list_any}
use Rattle.std.proofs.lemmas.Result.{IfOk-weaker}
use Rattle.ext_tree.specs.Cut.{cut_all}
use Rattle.ext_updated.specs.Putting.{IsCutFor}
use Rattle.ext_updated.proofs.CopyingLemmas.{cut_for}
use Rattle.ext_updated.proofs.updating.cut_for.Goals as goal

pub returns : goal.returns
returns g c =
    let root = c.args.root.now in
    let removed = c.args.removed.now in
    let pieces = c.args.pieces.now in
    let same = λ (test : List (List ℕ) → Bool). c.of-cut.ensures.same test ∙ ap (list_any test) (c.in_ok-both.ensures ∙ (λ i. c.as_slice.ensures.same i ++ (c.as_slice-2.ensures.value ∙ c.in_ok-paths.ensures) i)) in
    IfOk-weaker c.copy_without.result (λ left. left ≡ cut_all c.of-cut.result root) (IsCutFor root removed pieces)
    (λ left is. subst (IsCutFor root removed pieces) (sym is) (cut_for root removed pieces c.of-cut.result same)) c.copy_without.ensures
