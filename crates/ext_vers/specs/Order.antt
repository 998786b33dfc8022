-- The order of versions is total, and only equal texts tie: what sorted versions and keyed ones stand on.
use Rattle.std.specs.Prelude.{◌≡◌, ℕ, List, nat_eq, Some, refl}
use Rattle.std.proofs.Common.{true, ap, sym, ◌∙◌}
use Rattle.std.specs.Cmp.{both_ways, IsTotalOrder, IsPartialOrder, on_total, then_total, nat_cmp_total, partial_order_from_agreeing_total, tied_itself}
use Rattle.std.specs.Cmp.Lexicographic.{lists_total, nat_list_cmp_total, pointwise, texts_ties}
use Rattle.std.specs.Ordering.{eq_by_cmp, is_eq, ordering_then}
use Rattle.std.specs.declared.cmp.Ordering.{Ordering}
use Rattle.std.specs.declared.cmp.Ordering.TheVariants.{Less, Equal, Greater}
use Rattle.ext_lines.specs.ByteOrder.{bytes_cmp, bytes_exact, bytes_total}
use Rattle.ext_vers.specs.Version.{letters, order_of, token_cmp, token_rank, tokens, value, version_cmp}

tokens_total : IsTotalOrder token_cmp
tokens_total = then_total (on_total token_rank nat_cmp_total) (then_total (on_total value nat_cmp_total) (on_total letters nat_list_cmp_total))

-- versions are ordered, texts that differ in their bytes among the equal ones
pub versions_total : IsTotalOrder version_cmp
versions_total = on_total tokens (lists_total tokens_total)

-- the order with the bytes last is total
pub orders_total : IsTotalOrder order_of
orders_total = then_total versions_total bytes_total

then_bytes : (r s : Ordering) → ordering_then r s ≡ Equal → s ≡ Equal
then_bytes Less s e = cc e
then_bytes Equal s e = e
then_bytes Greater s e = cc e

-- and only equal texts tie
pub orders_exact : (a b : List ℕ) → order_of a b ≡ Equal → a ≡ b
orders_exact a b e = bytes_exact a b (then_bytes (version_cmp a b) (bytes_cmp a b) e)

tied : (r : Ordering) → is_eq r ≡ true → r ≡ Equal
tied Less is = cc is
tied Equal is = refl
tied Greater is = cc is

-- texts are equal exactly where they tie
pub orders_ties : (a b : List ℕ) → pointwise nat_eq a b ≡ eq_by_cmp order_of a b
orders_ties a b =
    texts_ties a b
    ∙ both_ways (eq_by_cmp bytes_cmp a b) (eq_by_cmp order_of a b)
    (λ same. ap is_eq (ap (order_of a) (sym (bytes_exact a b (tied (bytes_cmp a b) same))) ∙ tied_itself orders_total a))
    (λ same. ap is_eq (then_bytes (version_cmp a b) (bytes_cmp a b) (tied (order_of a b) same)))

-- so `<` and `==` agree
pub orders_po : IsPartialOrder (pointwise nat_eq) (λ a b. Some (order_of a b))
orders_po = partial_order_from_agreeing_total order_of orders_total (λ a b. refl) orders_ties
