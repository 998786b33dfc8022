-- Manifests in path order, of which no two have one path.
use Rattle.std.proofs.Common.{◌≡◌, ◌≢◌, ℕ, suc, ◌+◌, ◌<◌, ◌≤◌, Bool, true, false, cond, ◌||◌, List, [], ◌∷◌, ◌++◌, map, get_or, refl, sym, ap, ◌∙◌, subst, arith}
use Rattle.std.specs.Prelude.{Contains}
use mathlib.Core.Logic.{inl, inr}
use Rattle.std.specs.List.{AllByRecursion, AllZip, count_by, sum_by}
use Rattle.std.specs.List.Sorted.{IsPermutation, IsSortedBy, IsSortedByKey}
use Rattle.std.specs.Ordering.{eq_by_cmp, is_eq, is_lt, ordering_reverse}
use Rattle.std.specs.declared.cmp.Ordering.{Ordering}
use Rattle.std.specs.declared.cmp.Ordering.TheVariants.{Less, Equal, Greater}
use Rattle.std.proofs.lemmas.Bool.{cases_lt, false≢true}
use Rattle.std.proofs.lemmas.List.Sorted.{sum_by-IsPermutation}
use Rattle.std.proofs.lemmas.List.Sums.{sum_by-append, sum_by-cons}
use Rattle.ext_text.specs.Order.{paths_total}
use Rattle.ext_text.specs.Path.{are_related, is_prefix, path_cmp}
use Rattle.ext_text.proofs.ForCallers.{prefix_self, same_path, tied_path}
use Rattle.ext_host.specs.Valid.{AreAscending}
use Rattle.ext_host.specs.declared.manifest.Manifest.{Manifest}
use Rattle.ext_installed.proofs.ForCallers.{contains_cases, none_contained}
use Rattle.ext_update.proofs.FindLemmas.{here, later, not_less_itself}

-- 1 where a test is passed
abbrev pub one_if : Bool → ℕ
one_if b = cond b 1 0

-- a manifest is the one of a path
abbrev pub hit : List (List ℕ) → Manifest → ℕ
hit path manifest = cond (eq_by_cmp path_cmp path manifest.path) 1 0

-- how many manifests have the path
abbrev pub hits : List (List ℕ) → List Manifest → ℕ
hits path manifests = sum_by (hit path) manifests

-- no path has two
abbrev pub AreOnce : List Manifest → Type 0
AreOnce manifests = (path : List (List ℕ)) → hits path manifests ≤ 1

hits-cons : (path : List (List ℕ)) (m : Manifest) (ms : List Manifest) → hits path (m ∷ ms) ≡ hit path m + hits path ms
hits-cons path m ms = sum_by-cons (hit path) m ms

hit_same : (path : List (List ℕ)) (m : Manifest) → path ≡ m.path → hit path m ≡ 1
hit_same path m is = ap one_if (tied_path path m.path is)

is_false : (b : Bool) → (b ≡ true → ⊥) → b ≡ false
is_false true never = absurd (never refl)
is_false false never = refl

hit_other : (path : List (List ℕ)) (m : Manifest) → path ≢ m.path → hit path m ≡ 0
hit_other path m other = ap one_if (is_false (eq_by_cmp path_cmp path m.path) (λ tied. other (same_path path m.path tied)))

-- a path that is hit is that of a manifest
pub hit_some : (path : List (List ℕ)) (ms : List Manifest) → 0 < hits path ms → (m : Manifest) × Contains ms m × (m.path ≡ path)
hit_some path [] some = absurd (omega (arith, some))
hit_some path (m ∷ ms) some = elim (eq_by_cmp path_cmp path m.path) as (λ b. eq_by_cmp path_cmp path m.path ≡ b → (n : Manifest) × Contains (m ∷ ms) n × (n.path ≡ path)) [
  | true ↦ λ tied. (m, here m ms, sym (same_path path m.path tied))
  | false ↦ λ other.
      let none : hit path m ≡ 0 = ap one_if other in
      let found = hit_some path ms (omega (arith, some, hits-cons path m ms, none)) in
      (found.0, later m found.0 ms found.1, found.2)
] refl

none_hit : (path : List (List ℕ)) (ms : List Manifest) → AllByRecursion (λ y. path_cmp path y ≡ Less) (map (λ (m : Manifest). m.path) ms) → hits path ms ≡ 0
none_hit path [] above = refl
none_hit path (m ∷ ms) above =
    let other : hit path m ≡ 0 = hit_other path m (λ same. not_less_itself path (subst (λ p. path_cmp path p ≡ Less) (sym same) above.0)) in
    omega (arith, hits-cons path m ms, other, none_hit path ms above.1)

-- ascending manifests have each path once
pub ascending_once : (ms : List Manifest) → AreAscending path_cmp (map (λ (m : Manifest). m.path) ms) → AreOnce ms
ascending_once [] up path = omega arith
ascending_once (m ∷ ms) up path = elim (eq_by_cmp path_cmp path m.path) as (λ b. eq_by_cmp path_cmp path m.path ≡ b → hits path (m ∷ ms) ≤ 1) [
  | true ↦ λ tied.
      let same = same_path path m.path tied in
      let none = none_hit path ms (subst (λ p. AllByRecursion (λ y. path_cmp p y ≡ Less) (map (λ (n : Manifest). n.path) ms)) (sym same) up.0) in
      omega (arith, hits-cons path m ms, hit_same path m same, none)
  | false ↦ λ other.
      let none : hit path m ≡ 0 = ap one_if other in
      omega (arith, hits-cons path m ms, none, ascending_once ms up.1 path)
] refl

-- two lists, of which no path is hit in both
pub both_once : (xs ys : List Manifest) → AreOnce xs → AreOnce ys → ((m n : Manifest) → Contains xs m → Contains ys n → m.path ≡ n.path → ⊥) → AreOnce (xs ++ ys)
both_once xs ys first second apart path = elim (cases_lt 0 (hits path xs)) [
  | inl left ↦ elim (cases_lt 0 (hits path ys)) [
    | inl right ↦
        let m = hit_some path xs left in
        let n = hit_some path ys right in
        absurd (apart m.0 n.0 m.1 n.1 (m.2 ∙ sym n.2))
    | inr none ↦ omega (arith, sum_by-append (hit path) xs ys, first path, none)
  ]
  | inr none ↦ omega (arith, sum_by-append (hit path) xs ys, second path, none)
]

-- manifests of paths hit a path no more often than it is related to these
pub zip_hits : (R : List (List ℕ) → Manifest → Type 0) (path : List (List ℕ)) (paths : List (List (List ℕ))) (ms : List Manifest)
    → ((p : List (List ℕ)) (m : Manifest) → R p m → m.path ≡ p) → AllZip R paths ms → hits path ms ≤ count_by (are_related path) paths
zip_hits R path [] [] is all = omega arith
zip_hits R path [] (m ∷ ms) is all = absurd all
zip_hits R path (p ∷ ps) [] is all = absurd all
zip_hits R path (p ∷ ps) (m ∷ ms) is all =
    let rest = zip_hits R path ps ms is all.1 in
    let counted = sum_by-cons (λ q. cond (are_related path q) 1 0) p ps in
    elim (eq_by_cmp path_cmp path m.path) as (λ b. eq_by_cmp path_cmp path m.path ≡ b → hits path (m ∷ ms) ≤ count_by (are_related path) (p ∷ ps)) [
      | true ↦ λ tied.
          let same = same_path path m.path tied in
          let related : one_if (are_related path p) ≡ 1 = ap one_if (related_same path p (same ∙ is p m all.0)) in
          omega (arith, hits-cons path m ms, hit_same path m same, rest, counted, related)
      | false ↦ λ other.
          let none : hit path m ≡ 0 = ap one_if other in
          omega (arith, hits-cons path m ms, none, rest, counted)
    ] refl
  where
    related_same : (a b : List (List ℕ)) → a ≡ b → are_related a b ≡ true
    related_same a b same = subst (λ c. are_related a c ≡ true) same (ap (λ t. t || is_prefix a a) (prefix_self a))

-- the tail of a list in order is in order
sorted_tail : (lt : Manifest → Manifest → Bool) (x : Manifest) (xs : List Manifest) → IsSortedBy lt (x ∷ xs) → IsSortedBy lt xs
sorted_tail lt x xs sorted k d low high =
    let next : suc k + 1 ≡ suc (k + 1) = omega arith in
    subst (λ j. lt (get_or (x ∷ xs) j d) (get_or xs k d) ≡ false) next (sorted (suc k) d (omega arith) (omega (arith, high)))

tie : (o : Ordering) (p : Ordering) → p ≡ ordering_reverse o → is_lt p ≡ false → (o ≡ Equal → ⊥) → o ≡ Less
tie Less p back low other = refl
tie Equal p back low other = absurd (other refl)
tie Greater p back low other = absurd (false≢true (sym low ∙ ap is_lt back))

equal_tied : (a b : List (List ℕ)) → path_cmp a b ≡ Equal → a ≡ b
equal_tied a b equal = same_path a b (ap (λ o. is_eq o) equal)

lesser_first : (a : List (List ℕ)) (b : List (List ℕ)) (ps : List (List (List ℕ))) → path_cmp a b ≡ Less → AllByRecursion (λ y. path_cmp b y ≡ Less) ps → AllByRecursion (λ y. path_cmp a y ≡ Less) ps
lesser_first a b [] less all = tt
lesser_first a b (p ∷ ps) less all = (paths_total.trans a b p less all.0, lesser_first a b ps less all.1)

-- in path order, with each path once, they ascend
pub once_ascend : (ms : List Manifest) → IsSortedByKey (λ (m : Manifest). m.path) path_cmp ms → AreOnce ms → AreAscending path_cmp (map (λ (m : Manifest). m.path) ms)
once_ascend [] sorted once = tt
once_ascend (m ∷ []) sorted once = (tt, tt)
once_ascend (m ∷ n ∷ ms) sorted once =
    let rest = once_ascend (n ∷ ms) (sorted_tail (λ a b. is_lt (path_cmp a.path b.path)) m (n ∷ ms) sorted) (λ path. omega (arith, once path, hits-cons path m (n ∷ ms))) in
    let less : path_cmp m.path n.path ≡ Less =
    tie (path_cmp m.path n.path) (path_cmp n.path m.path) (paths_total.antisymm n.path m.path) (sorted 0 m (omega arith) (omega arith))
    (λ equal.
    let same = equal_tied m.path n.path equal in
    absurd (omega (arith, once m.path, hits-cons m.path m (n ∷ ms), hit_same m.path m refl, hits-cons m.path n ms, hit_same m.path n same))) in
    ((less, lesser_first m.path n.path (map (λ (x : Manifest). x.path) ms) less rest.0), rest)

-- so do those that were put in path order
pub permuted_ascend : (all ms : List Manifest) → IsPermutation all ms → IsSortedByKey (λ (m : Manifest). m.path) path_cmp ms → AreOnce all
    → AreAscending path_cmp (map (λ (m : Manifest). m.path) ms)
permuted_ascend all ms same sorted once =
    once_ascend ms sorted (λ path. subst (λ n. n ≤ 1) (sym (sum_by-IsPermutation (hit path) all ms same)) (once path))

count_one : (test : List (List ℕ) → Bool) (paths : List (List (List ℕ))) (p : List (List ℕ)) → Contains paths p → test p ≡ true → 0 < count_by test paths
count_one test [] p at passes = absurd (none_contained p at)
count_one test (x ∷ xs) p at passes =
    let counted = sum_by-cons (λ y. cond (test y) 1 0) x xs in
    elim (contains_cases x p xs at) [
      | inl first ↦ omega (arith, counted, ap one_if (ap test first ∙ passes))
      | inr rest ↦ omega (arith, counted, count_one test xs p rest passes)
    ]

-- of two paths that pass a test two are counted
pub count_two : (test : List (List ℕ) → Bool) (paths : List (List (List ℕ))) (p q : List (List ℕ)) → Contains paths p → Contains paths q → p ≢ q
    → test p ≡ true → test q ≡ true → 1 < count_by test paths
count_two test [] p q at also other passes too = absurd (none_contained p at)
count_two test (x ∷ xs) p q at also other passes too =
    let counted = sum_by-cons (λ y. cond (test y) 1 0) x xs in
    elim (contains_cases x p xs at) [
      | inl first ↦ elim (contains_cases x q xs also) [
        | inl second ↦ absurd (other (sym first ∙ second))
        | inr more ↦ omega (arith, counted, ap one_if (ap test first ∙ passes), count_one test xs q more too)
      ]
      | inr rest ↦ elim (contains_cases x q xs also) [
        | inl second ↦ omega (arith, counted, ap one_if (ap test second ∙ too), count_one test xs p rest passes)
        | inr more ↦ omega (arith, counted, count_two test xs p q rest more other passes too)
      ]
    ]
