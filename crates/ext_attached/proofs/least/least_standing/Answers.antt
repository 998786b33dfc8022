use Rattle.std.proofs.Common.{is_some, sym, ap, ◌∙◌}
use Rattle.std.specs.List.{find}
use Rattle.std.specs.Option.{option_copied}
use Rattle.ext_tree.specs.Tree.{lookup}
use Rattle.ext_attached.proofs.LeastLemmas.{finds_least}
use Rattle.ext_attached.proofs.least.least_standing.Goals as goal

pub returns : goal.returns
returns g c =
    finds_least (λ path. is_some (lookup c.args.tree.now path)) c.args.paths.now (option_copied c.first_standing.result) c.as_slice.ensures.sorted
    (ap (find (λ path. is_some (lookup c.args.tree.now path))) (sym c.as_slice.ensures.same) ∙ sym c.first_standing.ensures)
