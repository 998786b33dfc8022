-- Prefixes of paths: what a path begins with, where it stands in path order, and a path's parent.
use Rattle.std.proofs.Common.{not, ◌≡◌, ◌≢◌, ℕ, zero, suc, ◌+◌, ◌-◌, ◌<◌, ◌≤◌, ◌&&◌, true, false, List, [], ◌∷◌, length, take, refl, sym, ap, ◌∙◌, subst, arith, length-take}
use mathlib.Core.Logic.{inl, inr}
use Rattle.std.proofs.lemmas.Bool.{false≢true, true≢false, and_parts, and_from, cases_lt, false_from_ne_true, not-true}
use Rattle.std.specs.Prelude.{◌↔◌, nat_eq}
use Rattle.std.specs.declared.cmp.Ordering.{Ordering}
use Rattle.std.specs.declared.cmp.Ordering.TheVariants.{Less, Equal, Greater}
use Rattle.std.specs.Ordering.{is_lt, is_gt, is_eq, ordering_then, ordering_reverse, eq_by_cmp}
use Rattle.std.specs.Cmp.{IsTotalOrder, tied_itself}
use Rattle.std.specs.Cmp.Lexicographic.{pointwise, texts_ties, nat_list_cmp_total}
use Rattle.std.specs.FinMap.{IsAntisymmetric, slice_cmp-IsAntisymmetric, nat_cmp-IsAntisymmetric}
use Rattle.ext_lines.specs.ByteOrder.{bytes_cmp}
use Rattle.ext_text.specs.Path.{path_cmp, parent, is_prefix, is_proper_prefix}
use Rattle.ext_text.specs.Order.{paths_total, paths_exact}
use Rattle.ext_text.proofs.OrderLemmas.{is_equal}

names_total : IsTotalOrder bytes_cmp
names_total = nat_list_cmp_total

-- the order of names is antisymmetric
pub names_exact : IsAntisymmetric bytes_cmp
names_exact = slice_cmp-IsAntisymmetric nat_cmp-IsAntisymmetric

-- names that tie are the same
pub same_name : (n m : List ℕ) → eq_by_cmp bytes_cmp n m ≡ true → n ≡ m
same_name n m tied = names_exact n m (is_equal _ tied)

-- the same name ties
pub tied_name : (n m : List ℕ) → n ≡ m → eq_by_cmp bytes_cmp n m ≡ true
tied_name n m same = subst (λ k. eq_by_cmp bytes_cmp n k ≡ true) same (ap is_eq (tied_itself names_total n))

-- paths that tie are the same
pub same_path : (p q : List (List ℕ)) → eq_by_cmp path_cmp p q ≡ true → p ≡ q
same_path p q tied = paths_exact p q (is_equal _ tied)

-- the same path ties
pub tied_path : (p q : List (List ℕ)) → p ≡ q → eq_by_cmp path_cmp p q ≡ true
tied_path p q same = subst (λ r. eq_by_cmp path_cmp p r ≡ true) same (ap is_eq (tied_itself paths_total p))

-- a path that is not the root has a name
pub some_name : (p : List (List ℕ)) → p ≢ [] → 0 < length p
some_name [] some = absurd (some refl)
some_name (n ∷ p) some = omega arith

-- a name ties with itself
pub names_tied : (n : List ℕ) → bytes_cmp n n ≡ Equal
names_tied n = tied_itself names_total n

-- a prefix is what the list begins with
pub is_prefix-starts_with : (p q : List (List ℕ)) → pointwise (pointwise nat_eq) p (take (length p) q) ≡ is_prefix p q
is_prefix-starts_with [] [] = refl
is_prefix-starts_with [] (m ∷ q) = refl
is_prefix-starts_with (n ∷ p) [] = refl
is_prefix-starts_with (n ∷ p) (m ∷ q) = λ i. texts_ties n m i && is_prefix-starts_with p q i

-- a path is a prefix of itself
pub prefix_self : (p : List (List ℕ)) → is_prefix p p ≡ true
prefix_self [] = refl
prefix_self (n ∷ p) = and_from _ _ (tied_name n n refl) (prefix_self p)

-- a prefix of a prefix is one
pub prefix_trans : (p q r : List (List ℕ)) → is_prefix p q ≡ true → is_prefix q r ≡ true → is_prefix p r ≡ true
prefix_trans [] q r first second = refl
prefix_trans (n ∷ p) [] r first second = absurd (false≢true first)
prefix_trans (n ∷ p) (m ∷ q) [] first second = absurd (false≢true second)
prefix_trans (n ∷ p) (m ∷ q) (k ∷ r) first second =
    let x = and_parts (eq_by_cmp bytes_cmp n m) (is_prefix p q) first in
    let y = and_parts (eq_by_cmp bytes_cmp m k) (is_prefix q r) second in
    and_from _ _ (tied_name n k (same_name n m x.0 ∙ same_name m k y.0)) (prefix_trans p q r x.1 y.1)

-- a prefix is no longer
pub prefix_short : (p q : List (List ℕ)) → is_prefix p q ≡ true → length p ≤ length q
prefix_short [] q prefix = omega arith
prefix_short (n ∷ p) [] prefix = absurd (false≢true prefix)
prefix_short (n ∷ p) (m ∷ q) prefix =
    let rest : length p ≤ length q = prefix_short p q (and_parts (eq_by_cmp bytes_cmp n m) (is_prefix p q) prefix).1 in
    omega arith

-- a prefix of the same length is the whole
pub prefix_whole : (p q : List (List ℕ)) → is_prefix p q ≡ true → length p ≡ length q → p ≡ q
prefix_whole [] [] prefix same = refl
prefix_whole [] (m ∷ q) prefix same = absurd (omega arith)
prefix_whole (n ∷ p) [] prefix same = absurd (false≢true prefix)
prefix_whole (n ∷ p) (m ∷ q) prefix same =
    let parts = and_parts (eq_by_cmp bytes_cmp n m) (is_prefix p q) prefix in
    let name : n ≡ m = same_name n m parts.0 in
    let rest : p ≡ q = prefix_whole p q parts.1 (omega arith) in
    λ i. name i ∷ rest i

-- each a prefix of the other, two paths are one
pub prefix_both : (p q : List (List ℕ)) → is_prefix p q ≡ true → is_prefix q p ≡ true → p ≡ q
prefix_both p q there back = prefix_whole p q there (omega (arith, prefix_short p q there, prefix_short q p back))

-- a prefix that is not the whole is shorter
pub prefix_shorter : (p q : List (List ℕ)) → is_prefix p q ≡ true → p ≢ q → length p < length q
prefix_shorter p q prefix other =
    let apart : length p ≢ length q = λ same. other (prefix_whole p q prefix same) in
    omega (arith, prefix_short p q prefix, apart)

-- a prefix is one of as many names of the path as it has, or more
pub prefix_take : (k : ℕ) (r q : List (List ℕ)) → is_prefix r q ≡ true → length r ≤ k → is_prefix r (take k q) ≡ true
prefix_take k [] q prefix short = refl
prefix_take k (n ∷ r) [] prefix short = absurd (false≢true prefix)
prefix_take zero (n ∷ r) (m ∷ q) prefix short = absurd (omega arith)
prefix_take (suc k) (n ∷ r) (m ∷ q) prefix short =
    let parts = and_parts (eq_by_cmp bytes_cmp n m) (is_prefix r q) prefix in
    and_from _ _ parts.0 (prefix_take k r q parts.1 (omega arith))

-- the first names are a prefix
pub take_prefix : (k : ℕ) (p : List (List ℕ)) → is_prefix (take k p) p ≡ true
take_prefix zero p = refl
take_prefix (suc k) [] = refl
take_prefix (suc k) (n ∷ p) = and_from _ _ (tied_name n n refl) (take_prefix k p)

-- a proper prefix comes before the whole
pub prefix_less : (p q : List (List ℕ)) → is_prefix p q ≡ true → length p < length q → path_cmp p q ≡ Less
prefix_less [] [] prefix short = absurd (omega arith)
prefix_less [] (m ∷ q) prefix short = refl
prefix_less (n ∷ p) [] prefix short = absurd (false≢true prefix)
prefix_less (n ∷ p) (m ∷ q) prefix short =
    let parts = and_parts (eq_by_cmp bytes_cmp n m) (is_prefix p q) prefix in
    ap (λ r. ordering_then r (path_cmp p q)) (is_equal _ parts.0) ∙ prefix_less p q parts.1 (omega arith)

-- no prefix comes after its path
pub prefix_order : (p q : List (List ℕ)) → is_prefix q p ≡ true → path_cmp p q ≡ Less → ⊥
prefix_order p q prefix less = elim (cases_lt (length q) (length p)) [
  | inl proper ↦ true≢false (ap is_lt (sym less ∙ paths_total.antisymm p q ∙ ap ordering_reverse (prefix_less q p prefix proper)))
  | inr not_less ↦
      let same : q ≡ p = prefix_whole q p prefix (omega (arith, prefix_short q p prefix)) in
      true≢false (ap is_lt (sym less ∙ ap (path_cmp p) same ∙ tied_itself paths_total p))
]

pinched : (r s : Ordering) → r ≡ ordering_reverse s → is_gt r ≡ false → is_gt s ≡ false → r ≡ Equal
pinched Less Less is low high = absurd (false≢true (ap is_gt is))
pinched Less Equal is low high = is
pinched Less Greater is low high = absurd (true≢false high)
pinched Equal s is low high = refl
pinched Greater s is low high = absurd (true≢false low)

head_low : (r s : Ordering) → is_gt (ordering_then r s) ≡ false → is_gt r ≡ false
head_low Less s low = refl
head_low Equal s low = refl
head_low Greater s low = low

-- what stands from a prefix to a path begins with the prefix
pub convex : (p q r : List (List ℕ)) → is_gt (path_cmp p q) ≡ false → is_gt (path_cmp q r) ≡ false → is_prefix p r ≡ true → is_prefix p q ≡ true
convex [] q r low high prefix = refl
convex (n ∷ p) [] r low high prefix = absurd (true≢false low)
convex (n ∷ p) (m ∷ q) [] low high prefix = absurd (false≢true prefix)
convex (n ∷ p) (m ∷ q) (l ∷ r) low high prefix =
    let parts = and_parts (eq_by_cmp bytes_cmp n l) (is_prefix p r) prefix in
    let ends : n ≡ l = same_name n l parts.0 in
    let below : is_gt (bytes_cmp n m) ≡ false = head_low (bytes_cmp n m) (path_cmp p q) low in
    let above : is_gt (bytes_cmp m n) ≡ false = ap (λ x. is_gt (bytes_cmp m x)) ends ∙ head_low (bytes_cmp m l) (path_cmp q r) high in
    let tied : bytes_cmp n m ≡ Equal = pinched _ _ (names_total.antisymm n m) below above in
    let tied_end : bytes_cmp m l ≡ Equal = ap (λ x. bytes_cmp x l) (sym (names_exact n m tied)) ∙ is_equal _ parts.0 in
    and_from _ _ (ap is_eq tied)
    (convex p q r
    (sym (ap (λ x. is_gt (ordering_then x (path_cmp p q))) tied) ∙ low)
    (sym (ap (λ x. is_gt (ordering_then x (path_cmp q r))) tied_end) ∙ high)
    parts.1)

-- a parent has one name less
pub length-parent : (p : List (List ℕ)) → 0 < length p → length (parent p) + 1 ≡ length p
length-parent p some = omega (arith, length-take (length p - 1) p)

-- a parent is a prefix
pub parent_prefix : (p : List (List ℕ)) → is_prefix (parent p) p ≡ true
parent_prefix p = take_prefix (length p - 1) p

-- a parent comes before its path
pub parent_less : (p : List (List ℕ)) → 0 < length p → path_cmp (parent p) p ≡ Less
parent_less p some = prefix_less (parent p) p (parent_prefix p) (omega (arith, length-parent p some))

-- only the root is its own parent
pub parent_other : (p : List (List ℕ)) → 0 < length p → parent p ≢ p
parent_other p some same = absurd (omega (arith, length-parent p some, ap length same))

prefix_is_first : (p q : List (List ℕ)) → is_prefix p q ≡ true → p ≡ take (length p) q
prefix_is_first p q prefix =
    let short : length p ≤ length q = prefix_short p q prefix in
    prefix_whole p (take (length p) q) (prefix_take (length p) p q prefix (omega arith)) (omega (arith, length-take (length p) q))

first_is_prefix : (p q : List (List ℕ)) → p ≡ take (length p) q → is_prefix p q ≡ true
first_is_prefix p q first = subst (λ r. is_prefix r q ≡ true) (sym first) (take_prefix (length p) q)

-- a prefix is the first names of a path
pub prefix_first : (p q : List (List ℕ)) → (is_prefix p q ≡ true) ↔ (p ≡ take (length p) q)
prefix_first p q = (prefix_is_first p q, first_is_prefix p q)

proper_shorter : (p q : List (List ℕ)) → is_proper_prefix p q ≡ true → length p < length q
proper_shorter p q proper =
    let parts = and_parts (is_prefix p q) (not (is_prefix q p)) proper in
    prefix_shorter p q parts.0 (λ same. true≢false (sym (subst (λ r. is_prefix r p ≡ true) same (prefix_self p)) ∙ not-true (is_prefix q p) parts.1))

shorter_proper : (p q : List (List ℕ)) → is_prefix p q ≡ true → length p < length q → is_proper_prefix p q ≡ true
shorter_proper p q prefix short =
    and_from _ _ prefix (ap not (false_from_ne_true (is_prefix q p) (λ back. absurd (omega (arith, prefix_short q p back)))))

-- a proper prefix is the first names, and shorter than the whole
pub proper_first : (p q : List (List ℕ)) → (is_proper_prefix p q ≡ true) ↔ ((p ≡ take (length p) q) × (length p < length q))
proper_first p q = (
  λ proper. (prefix_is_first p q (and_parts (is_prefix p q) (not (is_prefix q p)) proper).0, proper_shorter p q proper),
  λ first. shorter_proper p q (first_is_prefix p q first.0) first.1,
)
