-- The least path that passes a test.
use Rattle.std.proofs.Common.{◌≡◌, ◌≢◌, ℕ, Bool, true, false, cond, List, [], ◌∷◌, Option, Some, None, inl, inr, refl, sym, ap, ◌∙◌, subst}
use Rattle.std.specs.Cmp.{tied_itself}
use Rattle.std.specs.List.{AllByRecursion, find, list_any}
use Rattle.std.specs.List.Sorted.{IsStrictlySortedBy}
use Rattle.std.specs.Ordering.{eq_by_cmp, ordering_reverse}
use Rattle.std.specs.declared.cmp.Ordering.TheVariants.{Less, Equal, Greater}
use Rattle.std.proofs.lemmas.Bool.{false≢true, or_cases, or_left, or_right}
use Rattle.std.proofs.lemmas.Option.{none-some}
use Rattle.ext_text.specs.Order.{paths_exact, paths_total}
use Rattle.ext_text.specs.Path.{path_cmp}
use Rattle.ext_text.specs.SortedPaths.{is_among}
use Rattle.ext_text.proofs.ForCallers.{same_path, tied_path}
use Rattle.ext_attached.specs.Least.{FindsLeast}

-- no path comes before itself, and none both before and after another one
not_less_itself : (p : List (List ℕ)) → path_cmp p p ≢ Less
not_less_itself p less = cc (less, tied_itself paths_total p)

not_both : (p q : List (List ℕ)) → path_cmp p q ≡ Less → path_cmp q p ≢ Less
not_both p q less back = not_less_itself p (paths_total.trans p q p less back)

-- what holds of all paths holds of one that is among them
all_among : (P : List (List ℕ) → Type 0) (ps : List (List (List ℕ))) (q : List (List ℕ)) → AllByRecursion P ps → is_among ps q ≡ true → P q
all_among P [] q all there = absurd (false≢true there)
all_among P (p ∷ ps) q all there = elim (or_cases (eq_by_cmp path_cmp q p) (is_among ps q) there) [
  | inl here ↦ subst P (sym (same_path q p here)) all.0
  | inr later ↦ all_among P ps q all.1 later
]

-- none of the paths comes before the first
none_before : (p : List (List ℕ)) (ps : List (List (List ℕ))) (q : List (List ℕ)) → AllByRecursion (λ r. path_cmp p r ≡ Less) ps → is_among (p ∷ ps) q ≡ true → path_cmp q p ≢ Less
none_before p ps q after there = elim (or_cases (eq_by_cmp path_cmp q p) (is_among ps q) there) [
  | inl here ↦ subst (λ r. path_cmp r p ≢ Less) (sym (same_path q p here)) (not_less_itself p)
  | inr later ↦ not_both p q (all_among (λ r. path_cmp p r ≡ Less) ps q after later)
]

module _ (test : List (List ℕ) → Bool) where
  -- where the first fails, the least of the others is the least
  later_least : (p : List (List ℕ)) (ps : List (List (List ℕ))) (found : Option (List (List ℕ))) → test p ≡ false → FindsLeast test ps found → FindsLeast test (p ∷ ps) found
  later_least p ps None fails none = λ q among. elim (or_cases (eq_by_cmp path_cmp q p) (is_among ps q) among) [
    | inl here ↦ ap test (same_path q p here) ∙ fails
    | inr later ↦ none q later
  ]
  later_least p ps (Some r) fails is = record {
    among = or_right _ _ is.among;
    passes = is.passes;
    least = λ q among passes. elim (or_cases (eq_by_cmp path_cmp q p) (is_among ps q) among) [
      | inl here ↦ absurd (false≢true (sym fails ∙ ap test (sym (same_path q p here)) ∙ passes))
      | inr later ↦ is.least q later passes
    ];
  }

  -- the first that passes is the least
  pub finds_least : (paths : List (List (List ℕ))) (found : Option (List (List ℕ))) → IsStrictlySortedBy path_cmp paths → find test paths ≡ found → FindsLeast test paths found
  unfolding IsStrictlySortedBy
  finds_least [] None sorted is = λ q among. absurd (false≢true among)
  finds_least [] (Some p) sorted is = absurd (none-some p is)
  finds_least (p ∷ ps) found sorted is =
      elim (test p) as (λ b. test p ≡ b → cond b (Some p) (find test ps) ≡ found → FindsLeast test (p ∷ ps) found) [
        | true ↦ λ passes got. subst (FindsLeast test (p ∷ ps)) got (record {
          among = or_left _ _ (tied_path p p refl);
          passes = passes;
          least = λ q among _. none_before p ps q sorted.0 among;
        })
        | false ↦ λ fails rest. later_least p ps found fails (finds_least ps found sorted.1 rest)
      ] refl is

  -- the order of the paths is of no matter
  pub least_moved : (xs ys : List (List (List ℕ))) (found : Option (List (List ℕ))) → ((t : List (List ℕ) → Bool) → list_any t xs ≡ list_any t ys) → FindsLeast test xs found → FindsLeast test ys found
  least_moved xs ys None same none = λ q among. none q (same (λ p. eq_by_cmp path_cmp q p) ∙ among)
  least_moved xs ys (Some r) same is = record {
    among = sym (same (λ p. eq_by_cmp path_cmp r p)) ∙ is.among;
    passes = is.passes;
    least = λ q among passes. is.least q (same (λ p. eq_by_cmp path_cmp q p) ∙ among) passes;
  }

  -- of two paths neither of which comes before the other
  same_least : (p q : List (List ℕ)) → path_cmp p q ≢ Less → path_cmp q p ≢ Less → p ≡ q
  same_least p q first second = elim (path_cmp p q) as (λ o. path_cmp p q ≡ o → p ≡ q) [
    | Less ↦ λ less. absurd (first less)
    | Equal ↦ λ tied. paths_exact p q tied
    | Greater ↦ λ greater. absurd (second (paths_total.antisymm q p ∙ ap ordering_reverse greater))
  ] refl

  pub one_least : (paths : List (List (List ℕ))) (a b : Option (List (List ℕ))) → FindsLeast test paths a → FindsLeast test paths b → a ≡ b
  one_least paths None None x y = refl
  one_least paths None (Some q) x y = absurd (false≢true (sym (x q y.among) ∙ y.passes))
  one_least paths (Some p) None x y = absurd (false≢true (sym (y p x.among) ∙ x.passes))
  one_least paths (Some p) (Some q) x y = ap Some (same_least p q (y.least p x.among x.passes) (x.least q y.among y.passes))
