use Rattle.std.proofs.Common.{rules}
use Rattle.std.specs.Ordering.{is_lt}
use Rattle.std.proofs.lemmas.Fn.{always_returns_same}
use Rattle.std.proofs.lemmas.List.Sorted.{ranks_by}
use Rattle.ext_text.specs.Order.{paths_total}
use Rattle.ext_text.specs.Path.{path_cmp}
use Rattle.ext_updated.proofs.PiecesLemmas.{path_of}
use Rattle.ext_updated.proofs.putting.in_order.Goals as goal

pub returns-clause-sorted : goal.returns-clause-sorted
returns-clause-sorted g c =
    c.in_ok-sort_by.ensures.sorted (λ x y. is_lt (path_cmp (path_of x) (path_of y))) (ranks_by paths_total path_of) (always_returns_same _ _ _ (λ a r f h. search rules))
