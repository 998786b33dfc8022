-- Which paths are related to another one of a list, and that the least of those that are in the way is found.
use Rattle.std.proofs.Common.{◌≡◌, ◌≢◌, ◌⊎◌, inl, inr, ℕ, zero, suc, ◌+◌, ◌<◌, ◌≤◌, Bool, true, false, cond, ◌||◌, ◌&&◌, List, [], ◌∷◌, ◌++◌, length, get_or, Option, Some, None, is_some, refl, sym, ap, subst, ◌∙◌, arith, zero-add}
use Rattle.std.specs.Prelude.{slice_get, IfOk, Result, Ok, Err}
use Rattle.std.specs.Cmp.{tied_itself}
use Rattle.std.specs.List.{AllByRecursion, count_by, filter, list_any}
use Rattle.std.specs.List.Sorted.{IsPermutation, IsSorted, IsStrictlySortedBy}
use Rattle.std.specs.Option.{option_to_list}
use Rattle.std.specs.Ordering.{eq_by_cmp, is_gt, is_lt, ordering_reverse}
use Rattle.std.specs.declared.cmp.Ordering.{Ordering}
use Rattle.std.specs.declared.cmp.Ordering.TheVariants.{Less, Equal, Greater}
use Rattle.std.proofs.lemmas.Bool.{and_from, and_parts, and_right, false≢true, false_from_ne_true, or_cases, or_from, or_left, or_right, true≢false}
use Rattle.std.proofs.lemmas.List.Elements.{recursion_from_All}
use Rattle.std.proofs.lemmas.List.Folds.{list_any-append}
use Rattle.std.proofs.lemmas.List.Sorted.{list_any-IsPermutation, ranks_by, sorted_far, sum_by-IsPermutation}
use Rattle.std.proofs.lemmas.List.Sums.{sum_by-cons}
use Rattle.ext_text.specs.Order.{paths_exact, paths_total}
use Rattle.ext_text.specs.Path.{are_related, is_prefix, path_cmp}
use Rattle.ext_text.specs.SortedPaths.{is_among, meets}
use Rattle.ext_text.proofs.ForCallers.{all_both, all_weaker, convex, prefix_order, prefix_self, same_path, tied_path}
use Rattle.ext_tree.specs.Tree.{Entries, lookup}
use Rattle.ext_updated.specs.Clash.{AnswersClash, IsInTheWay, MeetsAnother, is_non_link_at, link_over, meets_another, removed_meets, resource_over, written_meets}
use Rattle.ext_updated.specs.Items.{written}
use Rattle.ext_updated.specs.Steps.{IsLeastPath, IsLeastMet, begins_below, first_met}
use Rattle.ext_updated.specs.declared.items.Items.{Items}

-- which paths are among some

-- one of two lists has it
pub among_cases : (xs ys : List (List (List ℕ))) (q : List (List ℕ)) → is_among (xs ++ ys) q ≡ true → (is_among xs q ≡ true) ⊎ (is_among ys q ≡ true)
among_cases xs ys q there = or_cases _ _ (sym (list_any-append (λ p. eq_by_cmp path_cmp q p) xs ys) ∙ there)

pub among_left : (xs ys : List (List (List ℕ))) (q : List (List ℕ)) → is_among xs q ≡ true → is_among (xs ++ ys) q ≡ true
among_left xs ys q there = list_any-append (λ p. eq_by_cmp path_cmp q p) xs ys ∙ or_left _ _ there

pub among_right : (xs ys : List (List (List ℕ))) (q : List (List ℕ)) → is_among ys q ≡ true → is_among (xs ++ ys) q ≡ true
among_right xs ys q there = list_any-append (λ p. eq_by_cmp path_cmp q p) xs ys ∙ or_right _ _ there

-- what holds of all holds of each that is among them
pub all_among : (P : List (List ℕ) → Type 0) (ps : List (List (List ℕ))) (q : List (List ℕ)) → AllByRecursion P ps → is_among ps q ≡ true → P q
all_among P [] q all there = absurd (false≢true there)
all_among P (p ∷ ps) q all there = elim (or_cases (eq_by_cmp path_cmp q p) (is_among ps q) there) [
  | inl here ↦ subst P (sym (same_path q p here)) all.0
  | inr later ↦ all_among P ps q all.1 later
]

kept : (t a b : Bool) → (t ≡ true → b ≡ true) → (t || (a && b)) ≡ ((t || a) && b)
kept true a b is = sym (is refl)
kept false a b is = refl

pub dropped : (t a b : Bool) → (t ≡ true → b ≡ false) → (a && b) ≡ ((t || a) && b)
dropped true a b is = and_right a b (is refl) ∙ sym (is refl)
dropped false a b is = refl

-- those that pass a test
pub among_filter : (f : List (List ℕ) → Bool) (q : List (List ℕ)) (ps : List (List (List ℕ))) → is_among (filter f ps) q ≡ (is_among ps q && f q)
among_filter f q [] = refl
among_filter f q (p ∷ ps) =
    elim (f p) as (λ b. f p ≡ b → is_among (cond b (p ∷ filter f ps) (filter f ps)) q ≡ ((eq_by_cmp path_cmp q p || is_among ps q) && f q)) [
      | true ↦ λ pass. ap (λ b. eq_by_cmp path_cmp q p || b) (among_filter f q ps) ∙ kept (eq_by_cmp path_cmp q p) (is_among ps q) (f q) (λ tied. ap f (same_path q p tied) ∙ pass)
      | false ↦ λ fails. among_filter f q ps ∙ dropped (eq_by_cmp path_cmp q p) (is_among ps q) (f q) (λ tied. ap f (same_path q p tied) ∙ fails)
    ] refl

-- how many paths are related to one

abbrev rank : List (List ℕ) → List (List ℕ) → ℕ
rank p q = cond (are_related p q) 1 0

count_cons : (p q : List (List ℕ)) (ps : List (List (List ℕ))) → count_by (are_related p) (q ∷ ps) ≡ rank p q + count_by (are_related p) ps
count_cons p q ps = sum_by-cons (rank p) q ps

pub related_self : (p : List (List ℕ)) → are_related p p ≡ true
related_self p = or_left _ _ (prefix_self p)

swapped : (a b : Bool) → (a || b) ≡ (b || a)
swapped true true = refl
swapped true false = refl
swapped false true = refl
swapped false false = refl

-- relation goes both ways
pub related_back : (p q : List (List ℕ)) → are_related p q ≡ are_related q p
related_back p q = swapped (is_prefix p q) (is_prefix q p)

count_none : (p : List (List ℕ)) (ps : List (List (List ℕ))) → AllByRecursion (λ r. are_related p r ≡ false) ps → count_by (are_related p) ps ≡ 0
count_none p [] none = refl
count_none p (q ∷ ps) none = count_cons p q ps ∙ (λ i. cond (none.0 i) 1 0 + count_none p ps none.1 i)

pub count_past : (p q : List (List ℕ)) (ps : List (List (List ℕ))) → are_related q p ≡ false → count_by (are_related q) (p ∷ ps) ≡ count_by (are_related q) ps
count_past p q ps apart = count_cons q p ps ∙ ap (λ b. cond b 1 0 + count_by (are_related q) ps) apart ∙ zero-add (count_by (are_related q) ps)

pub count_here : (p q : List (List ℕ)) (ps : List (List (List ℕ))) → are_related q p ≡ true → count_by (are_related q) (p ∷ ps) ≡ 1 + count_by (are_related q) ps
count_here p q ps related = count_cons q p ps ∙ ap (λ b. cond b 1 0 + count_by (are_related q) ps) related

-- paths in another order are related to others as before
pub meets_permuted : (xs ys : List (List (List ℕ))) (p : List (List ℕ)) → IsPermutation xs ys → MeetsAnother xs p → MeetsAnother ys p
meets_permuted xs ys p same met = record {
  among = sym (list_any-IsPermutation (λ q. eq_by_cmp path_cmp p q) xs ys same) ∙ met.among;
  another = subst (λ n. 1 < n) (sym (sum_by-IsPermutation (rank p) xs ys same)) met.another;
}

-- paths in order

-- no later path comes before an earlier one
abbrev pub AreSorted : List (List (List ℕ)) → Type 0
AreSorted [] = Unit {0}
AreSorted (p ∷ ps) = AllByRecursion (λ q. is_lt (path_cmp q p) ≡ false) ps × AreSorted ps

sorted_pairs : (ps : List (List (List ℕ))) → ((i j : ℕ) (d : List (List ℕ)) → i ≤ j → j < length ps → is_lt (path_cmp (get_or ps j d) (get_or ps i d)) ≡ false) → AreSorted ps
sorted_pairs [] h = tt
sorted_pairs (p ∷ ps) h = (
  recursion_from_All (λ q. is_lt (path_cmp q p) ≡ false) ps (λ k d below. h zero (suc k) d (omega arith) (omega arith)),
  sorted_pairs ps (λ i j d le below. h (suc i) (suc j) d (omega arith) (omega arith)),
)

pub are_sorted : (ps : List (List (List ℕ))) → IsSorted path_cmp ps → AreSorted ps
are_sorted ps h = sorted_pairs ps (sorted_far (λ x y. is_lt (path_cmp x y)) (ranks_by paths_total (λ (p : List (List ℕ)). p)) ps h)

reversed_gt : (r : Ordering) → is_gt (ordering_reverse r) ≡ is_lt r
reversed_gt Less = refl
reversed_gt Equal = refl
reversed_gt Greater = refl

not_after : (p q : List (List ℕ)) → is_lt (path_cmp q p) ≡ false → is_gt (path_cmp p q) ≡ false
not_after p q from = ap is_gt (paths_total.antisymm p q) ∙ reversed_gt (path_cmp q p) ∙ from

not_less : (p q : List (List ℕ)) → is_lt (path_cmp q p) ≡ false → path_cmp q p ≢ Less
not_less p q from less = true≢false (sym (ap is_lt less) ∙ from)

-- a prefix that does not come before its path is the path
prefix_after : (p r : List (List ℕ)) → is_gt (path_cmp p r) ≡ false → is_prefix r p ≡ true → is_prefix p r ≡ true
prefix_after p r low above =
    elim (path_cmp p r) as (λ o. path_cmp p r ≡ o → is_gt o ≡ false → is_prefix p r ≡ true) [
      | Less ↦ λ less _. absurd (prefix_order p r above less)
      | Equal ↦ λ tied _. subst (λ x. is_prefix p x ≡ true) (paths_exact p r tied) (prefix_self p)
      | Greater ↦ λ _ not_low. absurd (true≢false not_low)
    ] refl low

-- a path that is no prefix of the next one is related to none after it
unrelated : (p q r : List (List ℕ)) → is_gt (path_cmp p q) ≡ false → is_gt (path_cmp q r) ≡ false → is_gt (path_cmp p r) ≡ false → is_prefix p q ≡ false → are_related p r ≡ false
unrelated p q r low high whole apart =
    let not_below = λ (below : is_prefix p r ≡ true). false≢true (sym apart ∙ convex p q r low high below) in
    or_from _ _ (false_from_ne_true (is_prefix p r) not_below) (false_from_ne_true (is_prefix r p) (λ above. not_below (prefix_after p r whole above)))

apart_first : (p : List (List ℕ)) (ps : List (List (List ℕ))) → AreSorted (p ∷ ps) → begins_below p ps ≡ false → AllByRecursion (λ r. are_related p r ≡ false) ps
apart_first p [] sorted apart = tt
apart_first p (q ∷ ps) sorted apart =
    let low = not_after p q sorted.0.0 in (
      unrelated p q q low (ap is_gt (tied_itself paths_total q)) low apart,
      all_weaker (λ (r : List (List ℕ)). (is_lt (path_cmp r p) ≡ false) × (is_lt (path_cmp r q) ≡ false)) (λ r. are_related p r ≡ false)
          (λ r both. unrelated p q r low (not_after q r both.1) (not_after p r both.0) apart) ps
          (all_both (λ (r : List (List ℕ)). is_lt (path_cmp r p) ≡ false) (λ r. is_lt (path_cmp r q) ≡ false) ps sorted.0.1 sorted.1.0),
    )

-- the least that is related to another one

-- a path that is related to none of the others changes nothing
meets_tail : (p : List (List ℕ)) (ps : List (List (List ℕ))) (q : List (List ℕ)) → AllByRecursion (λ r. are_related p r ≡ false) ps → MeetsAnother (p ∷ ps) q → MeetsAnother ps q
meets_tail p ps q apart met = elim (or_cases (eq_by_cmp path_cmp q p) (is_among ps q) met.among) [
  | inl here ↦
      let alone : count_by (are_related p) (p ∷ ps) ≡ 1 = count_here p p ps (related_self p) ∙ ap (λ n. 1 + n) (count_none p ps apart) in
      let another : 1 < count_by (are_related p) (p ∷ ps) = subst (λ r. 1 < count_by (are_related r) (p ∷ ps)) (same_path q p here) met.another in
      absurd (omega arith)
  | inr later ↦ record {
    among = later;
    another = subst (λ n. 1 < n) (count_past p q ps (related_back q p ∙ all_among (λ r. are_related p r ≡ false) ps q apart later)) met.another;
  }
]

pub meets_later : (p : List (List ℕ)) (ps : List (List (List ℕ))) (q : List (List ℕ)) → MeetsAnother ps q → MeetsAnother (p ∷ ps) q
meets_later p ps q met =
    let count = count_cons q p ps in
    let another = met.another in
    record { among = or_right _ _ met.among; another = omega arith }

met_next : (p q : List (List ℕ)) (ps : List (List (List ℕ))) → is_prefix p q ≡ true → MeetsAnother (p ∷ q ∷ ps) p
met_next p q ps below =
    let first = count_here p p (q ∷ ps) (related_self p) in
    let second = count_here q p ps (or_left _ (is_prefix q p) below) in
    record { among = or_left _ _ (tied_path p p refl); another = omega arith }

met_here : (p : List (List ℕ)) (ps : List (List (List ℕ))) → begins_below p ps ≡ true → MeetsAnother (p ∷ ps) p
met_here p [] below = absurd (false≢true below)
met_here p (q ∷ ps) below = met_next p q ps below

still_least : (p : List (List ℕ)) (ps : List (List (List ℕ))) (met : Option (List (List ℕ))) → AllByRecursion (λ r. are_related p r ≡ false) ps → IsLeastMet ps met → IsLeastMet (p ∷ ps) met
still_least p ps None apart none = λ q met. none q (meets_tail p ps q apart met)
still_least p ps (Some r) apart least = (meets_later p ps r least.0, λ q met. least.1 q (meets_tail p ps q apart met))

none_before : (p : List (List ℕ)) (ps : List (List (List ℕ))) (q : List (List ℕ)) → AllByRecursion (λ r. is_lt (path_cmp r p) ≡ false) ps → is_among (p ∷ ps) q ≡ true → path_cmp q p ≢ Less
none_before p ps q sorted there = not_less p q (all_among (λ r. is_lt (path_cmp r p) ≡ false) (p ∷ ps) q (ap is_lt (tied_itself paths_total p), sorted) there)

-- in paths in order, the first that is a prefix of the next
pub least_met : (ps : List (List (List ℕ))) → AreSorted ps → IsLeastMet ps (first_met ps)
least_met [] sorted = λ p met. false≢true met.among
least_met (p ∷ ps) sorted =
    elim (begins_below p ps) as (λ b. begins_below p ps ≡ b → IsLeastMet (p ∷ ps) (cond b (Some p) (first_met ps))) [
      | true ↦ λ below. (met_here p ps below, λ q met. none_before p ps q sorted.0 met.among)
      | false ↦ λ apart. still_least p ps (first_met ps) (apart_first p ps sorted apart) (least_met ps sorted.1)
    ] refl

-- and so in any order
pub least_permuted : (xs ys : List (List (List ℕ))) (met : Option (List (List ℕ))) → IsPermutation xs ys → IsPermutation ys xs → IsLeastMet ys met → IsLeastMet xs met
least_permuted xs ys None there back none = λ p met. none p (meets_permuted xs ys p there met)
least_permuted xs ys (Some r) there back least = (meets_permuted ys xs r back least.0, λ q met. least.1 q (meets_permuted xs ys q there met))

-- the least of all

first_least : (p : List (List ℕ)) (ps : List (List (List ℕ))) → IsStrictlySortedBy path_cmp (p ∷ ps) → (q : List (List ℕ)) → is_among (p ∷ ps) q ≡ true → path_cmp q p ≢ Less
unfolding IsStrictlySortedBy
first_least p ps sorted q there =
    none_before p ps q (all_weaker (λ (r : List (List ℕ)). path_cmp p r ≡ Less) (λ r. is_lt (path_cmp r p) ≡ false)
    (λ r less. ap is_lt (paths_total.antisymm r p ∙ ap ordering_reverse less)) ps sorted.0) there

-- the first of sorted paths is the least of those that they are
pub is_least : (sorted paths : List (List (List ℕ))) (first : Option (List (List ℕ))) → IsStrictlySortedBy path_cmp sorted → ((test : List (List ℕ) → Bool) → list_any test sorted ≡ list_any test paths) → slice_get sorted 0 ≡ first → IsLeastPath paths first
is_least [] paths None sorted same is = λ q. sym (same (λ p. eq_by_cmp path_cmp q p))
is_least [] paths (Some p) sorted same is = absurd (false≢true (ap is_some is))
is_least (p ∷ ps) paths None sorted same is = absurd (true≢false (ap is_some is))
is_least (p ∷ ps) paths (Some q) sorted same is =
    let here : p ≡ q = cc is in
    subst (λ r. IsLeastPath paths (Some r)) here (
      sym (same (λ r. eq_by_cmp path_cmp p r)) ∙ or_left _ _ (tied_path p p refl),
      λ r there. first_least p ps sorted r (same (λ s. eq_by_cmp path_cmp r s) ∙ there),
    )

-- what is found

abbrev pub found_in : {C : Type 0} → Entries C → Items → Option (List (List ℕ)) → List (List (List ℕ))
found_in root items met =
    (((filter (meets (items.removed ++ items.staying)) (written items) ++ filter (meets (written items ++ items.staying)) items.removed)
    ++ filter (λ p. is_some (lookup root p)) items.resources) ++ filter (λ p. is_non_link_at (lookup root p)) items.links) ++ option_to_list met

module _ {C : Type 0} (root : Entries C) (items : Items) (met : Option (List (List ℕ))) (is_met : IsLeastMet (written items) met) where
  abbrev of_written : List (List (List ℕ))
  of_written = filter (meets (items.removed ++ items.staying)) (written items)

  abbrev of_removed : List (List (List ℕ))
  of_removed = filter (meets (written items ++ items.staying)) items.removed

  abbrev of_resources : List (List (List ℕ))
  of_resources = filter (λ p. is_some (lookup root p)) items.resources

  abbrev of_links : List (List (List ℕ))
  of_links = filter (λ p. is_non_link_at (lookup root p)) items.links

  -- what the code finds, step by step
  pub found_is : (all none meeting resources standing links non_links whole : List (List (List ℕ))) → all ≡ written items → none ≡ []
      → meeting ≡ (none ++ filter (meets (items.removed ++ items.staying)) all) ++ filter (meets (all ++ items.staying)) items.removed
      → resources ≡ items.resources → standing ≡ meeting ++ filter (λ p. is_some (lookup root p)) resources
      → links ≡ items.links → non_links ≡ standing ++ filter (λ p. is_non_link_at (lookup root p)) links
      → whole ≡ non_links ++ option_to_list met → whole ≡ found_in root items met
  found_is all none meeting resources standing links non_links whole all_is none_is first resources_is second links_is third last =
      let one : meeting ≡ of_written ++ of_removed =
      first ∙ (λ i. (none_is i ++ filter (meets (items.removed ++ items.staying)) (all_is i)) ++ filter (meets (all_is i ++ items.staying)) items.removed) in
      let two : standing ≡ (of_written ++ of_removed) ++ of_resources = second ∙ (λ i. one i ++ filter (λ p. is_some (lookup root p)) (resources_is i)) in
      let three : non_links ≡ ((of_written ++ of_removed) ++ of_resources) ++ of_links = third ∙ (λ i. two i ++ filter (λ p. is_non_link_at (lookup root p)) (links_is i)) in
      last ∙ ap (λ ps. ps ++ option_to_list met) three

  met_in_way : (q : List (List ℕ)) (o : Option (List (List ℕ))) → IsLeastMet (written items) o → is_among (option_to_list o) q ≡ true → IsInTheWay root items q
  met_in_way q None is there = absurd (false≢true there)
  met_in_way q (Some p) is there = elim (or_cases (eq_by_cmp path_cmp q p) false there) [
    | inl here ↦ subst (λ r. IsInTheWay root items r) (sym (same_path q p here)) (meets_another is.0)
    | inr never ↦ absurd (false≢true never)
  ]

  -- each that is found is in the way
  in_way : (q : List (List ℕ)) → is_among (found_in root items met) q ≡ true → IsInTheWay root items q
  in_way q there = elim (among_cases (((of_written ++ of_removed) ++ of_resources) ++ of_links) (option_to_list met) q there) [
    | inr last ↦ met_in_way q met is_met last
    | inl some ↦ elim (among_cases ((of_written ++ of_removed) ++ of_resources) of_links q some) [
      | inr link ↦ let parts = and_parts _ _ (sym (among_filter (λ p. is_non_link_at (lookup root p)) q items.links) ∙ link) in link_over parts.0 parts.1
      | inl more ↦ elim (among_cases (of_written ++ of_removed) of_resources q more) [
        | inr resource ↦ let parts = and_parts _ _ (sym (among_filter (λ p. is_some (lookup root p)) q items.resources) ∙ resource) in resource_over parts.0 parts.1
        | inl both ↦ elim (among_cases of_written of_removed q both) [
          | inl first ↦ let parts = and_parts _ _ (sym (among_filter (meets (items.removed ++ items.staying)) q (written items)) ∙ first) in written_meets parts.0 parts.1
          | inr second ↦ let parts = and_parts _ _ (sym (among_filter (meets (written items ++ items.staying)) q items.removed) ∙ second) in removed_meets parts.0 parts.1
        ]
      ]
    ]
  ]

  -- one that is found and does not come after it
  abbrev NoLaterFound : List (List ℕ) → Type 0
  NoLaterFound q = (r : List (List ℕ)) × (is_among (found_in root items met) r ≡ true) × (path_cmp q r ≢ Less)

  not_before_itself : (q : List (List ℕ)) → path_cmp q q ≢ Less
  not_before_itself q = not_less q q (ap is_lt (tied_itself paths_total q))

  met_found : (q : List (List ℕ)) (o : Option (List (List ℕ))) → IsLeastMet (written items) o → MeetsAnother (written items) q → (r : List (List ℕ)) × (is_among (option_to_list o) r ≡ true) × (path_cmp q r ≢ Less)
  met_found q None none other = absurd (none q other)
  met_found q (Some p) least other = (p, or_left _ _ (tied_path p p refl), least.1 q other)

  -- and of each that is in the way one is found
  way_found : (q : List (List ℕ)) → IsInTheWay root items q → NoLaterFound q
  way_found q (meets_another other) =
      let least = met_found q met is_met other in
      (least.0, among_right _ (option_to_list met) least.0 least.1, least.2)
  way_found q (written_meets among other) =
      (q, among_left _ _ q (among_left _ _ q (among_left _ _ q (among_left of_written of_removed q (among_filter (meets (items.removed ++ items.staying)) q (written items) ∙ and_from _ _ among other)))), not_before_itself q)
  way_found q (removed_meets among other) =
      (q, among_left _ _ q (among_left _ _ q (among_left _ _ q (among_right of_written of_removed q (among_filter (meets (written items ++ items.staying)) q items.removed ∙ and_from _ _ among other)))), not_before_itself q)
  way_found q (resource_over among stands) =
      (q, among_left _ _ q (among_left _ _ q (among_right (of_written ++ of_removed) of_resources q (among_filter (λ p. is_some (lookup root p)) q items.resources ∙ and_from _ _ among stands))), not_before_itself q)
  way_found q (link_over among stands) =
      (q, among_left _ _ q (among_right ((of_written ++ of_removed) ++ of_resources) of_links q (among_filter (λ p. is_non_link_at (lookup root p)) q items.links ∙ and_from _ _ among stands)), not_before_itself q)

  -- what comes before a path comes before all that don't
  not_between : (q p r : List (List ℕ)) → path_cmp q r ≢ Less → path_cmp r p ≢ Less → path_cmp q p ≢ Less
  not_between q p r first second less =
      elim (path_cmp p r) as (λ o. path_cmp p r ≡ o → ⊥) [
        | Less ↦ λ after. first (paths_total.trans q p r less after)
        | Equal ↦ λ tied. first (ap (path_cmp q) (sym (paths_exact p r tied)) ∙ less)
        | Greater ↦ λ before. second (paths_total.antisymm r p ∙ ap ordering_reverse before)
      ] refl

  -- the least that is found answers
  pub answers_clash : (least : Option (List (List ℕ))) → IsLeastPath (found_in root items met) least → AnswersClash root items least
  answers_clash None none = λ q way. let found = way_found q way in false≢true (sym (none found.0) ∙ found.1)
  answers_clash (Some p) is = record {
    stands = in_way p is.0;
    least = λ q way. let found = way_found q way in not_between q p found.0 found.2 (is.1 found.0 found.1);
  }

-- so the search answers
pub clash_found : {C E : Type 0} (root : Entries C) (items : Items) (met : Option (List (List ℕ))) (found : List (List (List ℕ))) (r : Result (Option (List (List ℕ))) E) → IsLeastMet (written items) met → found ≡ found_in root items met → IfOk r (IsLeastPath found) → IfOk r (AnswersClash root items)
clash_found root items met found (Ok least) is_met is gives = answers_clash root items met is_met least (subst (λ ps. IsLeastPath ps least) is gives)
clash_found root items met found (Err e) is_met is gives = tt
