use Rattle.std.proofs.Common.{◌≡◌, ℕ, true, List, sym, ap, ◌∙◌}
use Rattle.std.proofs.lemmas.Result.{IfOk-weaker}
use Rattle.ext_tree.specs.Part.{part}
use Rattle.ext_tree.specs.Tree.{is_directory_at, lookup}
use Rattle.ext_walk.specs.Walk.{Ends}
use Rattle.ext_find.proofs.ForCallers.{own_directory}
use Rattle.ext_explain.specs.Finding.{finding_of}
use Rattle.ext_explain.proofs.explaining.finding_of_image.Goals as goal

pub returns-in-Some : goal.returns-in-Some
returns-in-Some c =
    let base = c.args.base.now in
    let place = c.args.place.now in
    let stands = ap (lookup base) (sym c.names.ensures.same) ∙ c.in-Some.ensures.1 in
    let directory : is_directory_at (lookup base place) ≡ true = ap is_directory_at stands ∙ sym c.is_directory.ensures ∙ c.if-is_directory.true in
    let ends : Ends base place place = (own_directory base c.pairs-entries.ensures.tree.tree place directory).0 in
    IfOk-weaker c.finding_from.result (λ finding. finding ≡ finding_of (part c.names-in-Some.result base) c.names-in-Some-2.result) (λ finding. (image : List (List ℕ)) × Ends base place image × (finding ≡ finding_of (part image base) c.args.path.now))
    (λ finding is. (place, ends, is ∙ (λ i. finding_of (part (c.names-in-Some.ensures.same i) base) (c.names-in-Some-2.ensures.same i)))) c.finding_from.ensures
