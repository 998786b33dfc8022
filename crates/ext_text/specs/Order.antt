-- The order of paths, and its laws.
use Rattle.std.specs.Prelude.{nat_eq, Some, refl}
use Rattle.std.proofs.Common.{subst}
use Rattle.std.specs.Cmp.{IsTotalOrder, IsPartialOrder, Agrees}
use Rattle.std.specs.Cmp.Lexicographic.{pointwise, slice_partial_cmp, lists_po, lists_agrees, lists_total, texts_po}
use Rattle.std.specs.FinMap.{IsAntisymmetric, slice_cmp-IsAntisymmetric}
use Rattle.ext_lines.specs.ByteOrder.{bytes_cmp, bytes_total, bytes_exact}
use Rattle.ext_text.specs.Path.{path_cmp}

pub paths_po : IsPartialOrder (pointwise (pointwise nat_eq)) (λ xs ys. Some (path_cmp xs ys))
paths_po =
    let agrees : Agrees (slice_partial_cmp (λ x y. Some (bytes_cmp x y))) path_cmp = lists_agrees (λ x y. refl) in
    subst (IsPartialOrder (pointwise (pointwise nat_eq))) (λ i xs ys. agrees xs ys i) (lists_po texts_po)

-- path order is total
pub paths_total : IsTotalOrder path_cmp
paths_total = lists_total bytes_total

-- and only equal paths tie
pub paths_exact : IsAntisymmetric path_cmp
paths_exact = slice_cmp-IsAntisymmetric bytes_exact
