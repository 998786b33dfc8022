use Rattle.std.proofs.Common.{Some, ◌≡◌, ◌∙◌, ap, subst, sym}
use Rattle.std.specs.Prelude.{slice_get}
use Rattle.ext_updated.specs.Steps.{IsLeastPath}
use Rattle.ext_updated.proofs.ClashLemmas.{is_least}
use Rattle.ext_updated.proofs.clashing.least.Goals as goal

pub returns : goal.returns
returns c =
    let first : slice_get c.of-sorted.result 0 ≡ Some c.in-Some.path.now = ap (λ ps. slice_get ps 0) (sym c.as_slice.ensures.same) ∙ sym c.in-Some.ensures.value in
    subst (λ r. IsLeastPath c.args.paths.items (Some r)) (sym c.in_ok-copy-in-Some.ensures)
    (is_least c.of-sorted.result c.args.paths.items (Some c.in-Some.path.now) c.of-sorted.ensures.sorted c.of-sorted.ensures.same first)
