use Rattle.std.proofs.Common.{◌≡◌, true, sym, ap, ◌∙◌, subst}
use Rattle.ext_tree.specs.Tree.{is_directory_at, lookup}
use Rattle.ext_walk.specs.Walk.{Ends}
use Rattle.ext_find.proofs.ForCallers.{own_directory}
use Rattle.ext_view.proofs.image.directory_itself.Goals as goal

pub returns-then-is_directory : goal.returns-then-is_directory
returns-then-is_directory c =
    let stands = ap (lookup c.args.base.now) c.in_ok-directory.ensures.0 ∙ c.in_ok-path.ensures.found.1 in
    let directory : is_directory_at (lookup c.args.base.now c.args.place.now) ≡ true = ap is_directory_at stands ∙ sym c.is_directory.ensures ∙ c.if-is_directory.true in
    let same : c.args.place.now ≡ c.names.result = c.in_ok-directory.ensures.0 ∙ sym c.in_ok-path.ensures.found.0 ∙ sym c.names.ensures.same in
    subst (Ends c.args.base.now c.args.place.now) same (own_directory c.args.base.now c.child.ensures.tree c.args.place.now directory).0
