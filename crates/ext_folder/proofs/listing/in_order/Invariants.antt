use Rattle.std.specs.Prelude.{[], ◌∷◌, ◌++◌}
use Rattle.ext_text.specs.Name.{bytes_cmp}
use Rattle.ext_text.specs.Path.{IsPath}
use Rattle.ext_folder.proofs.Listed.{IsListedSoFar}
use Rattle.ext_folder.proofs.listing.in_order.Given as goal

abbrev pub invariant-names : goal.invariant-names
invariant-names l = IsListedSoFar bytes_cmp (λ n. IsPath (l.dir ++ n ∷ [])) l.names l.name-iterator
