-- The directories above pieces, and which of them are missing.
use Rattle.std.proofs.Common.{◌≡◌, ℕ, zero, suc, ◌+◌, ◌-◌, ◌<◌, ◌≤◌, Bool, true, false, cond, not, ◌||◌, ◌&&◌, List, [], ◌∷◌, length, take, Some, None, refl, sym, ap, ◌∙◌, ◌++◌, arith, inl, inr, length-take}
use Rattle.std.specs.Cmp.{both_ways}
use Rattle.std.specs.FinMap.{is_sorted}
use Rattle.std.specs.FinMap.Entries.{below_all}
use Rattle.std.specs.List.{AllByRecursion, filter, list_any}
use Rattle.std.specs.List.Sorted.{IsStrictlySortedBy}
use Rattle.std.specs.Ordering.{eq_by_cmp, is_lt}
use Rattle.std.specs.declared.cmp.Ordering.TheVariants.{Less}
use Rattle.std.proofs.lemmas.Bool.{and_from, and_parts, and_right, cases_lt, false≢true, or_cases, or_left, or_right}
use Rattle.std.proofs.lemmas.List.{length-take-le, take-take}
use Rattle.std.proofs.lemmas.List.Folds.{list_any-append}
use Rattle.ext_text.specs.Path.{is_proper_prefix, parent, path_cmp}
use Rattle.ext_text.specs.SortedPaths.{is_among}
use Rattle.ext_text.proofs.ForCallers.{proper_first, same_path, tied_path}
use Rattle.ext_tree.specs.Graft.{made}
use Rattle.ext_tree.specs.Refusals.{is_root}
use Rattle.ext_tree.specs.Tree.{Entries, lookup}
use Rattle.ext_updated.specs.Pieces.{is_above, paths_of}
use Rattle.ext_updated.specs.Putting.{lacking_above, lacking_once, lacks, made_at, prefixes, prefixes_from}
use Rattle.ext_updated.specs.declared.piece.Piece.{Piece}
use Rattle.ext_updated.proofs.ClashLemmas.{among_filter}

-- the paths above a path

record IsFirst (p q : List (List ℕ)) (low high : ℕ) : Type 0 where
  from : low ≤ length q
  below : length q < high
  first : q ≡ take (length q) p

first_names : (p q : List (List ℕ)) (names count : ℕ) → names < length p → q ≡ take names p → IsFirst p q names (names + suc count)
first_names p q names count within is =
    let len : length q ≡ names = ap length is ∙ short in
    record { from = omega arith; below = omega arith; first = is ∙ ap (λ k. take k p) (sym len) }
  where
    short : length (take names p) ≡ names
    short = omega (arith, length-take names p)

wider : (p q : List (List ℕ)) (names count : ℕ) → IsFirst p q (suc names) (suc names + count) → IsFirst p q names (names + suc count)
wider p q names count is =
    let from = is.from in
    let below = is.below in
    record { from = omega arith; below = omega arith; first = is.first }

found_first : (p q : List (List ℕ)) (names count : ℕ) → names + count ≤ length p → is_among (prefixes_from p names count) q ≡ true → IsFirst p q names (names + count)
found_first p q names zero within among = absurd (false≢true among)
found_first p q names (suc count) within among = elim (or_cases (eq_by_cmp path_cmp q (take names p)) (is_among (prefixes_from p (suc names) count) q) among) [
  | inl here ↦ first_names p q names count (omega arith) (same_path q (take names p) here)
  | inr later ↦ wider p q names count (found_first p q (suc names) count (omega arith) later)
]

first_found : (p q : List (List ℕ)) (names count : ℕ) → names ≤ length q → length q < names + count → q ≡ take (length q) p → is_among (prefixes_from p names count) q ≡ true
first_found p q names zero from below first = absurd (omega arith)
first_found p q names (suc count) from below first = elim (cases_lt names (length q)) [
  | inl longer ↦ or_right _ _ (first_found p q (suc names) count (omega arith) (omega arith) first)
  | inr not_longer ↦
      let same : length q ≡ names = omega arith in
      or_left _ _ (tied_path q (take names p) (first ∙ ap (λ k. take k p) same))
]

not_root : (q : List (List ℕ)) → 0 < length q → not (is_root q) ≡ true
not_root [] some = absurd (omega arith)
not_root (n ∷ q) some = refl

root_not : (q : List (List ℕ)) → not (is_root q) ≡ true → 0 < length q
root_not [] not_root = absurd (false≢true not_root)
root_not (n ∷ q) not_root = omega arith

among_prefixes : (p q : List (List ℕ)) → is_among (prefixes p) q ≡ (not (is_root q) && is_proper_prefix q p)
among_prefixes [] [] = refl
among_prefixes [] (n ∷ q) = refl
among_prefixes (m ∷ p) q =
    both_ways (is_among (prefixes (m ∷ p)) q) (not (is_root q) && is_proper_prefix q (m ∷ p))
    (λ among.
    let is = found_first (m ∷ p) q 1 (length (m ∷ p) - 1) (omega arith) among in
    let from = is.from in
    let below = is.below in
    and_from _ _ (not_root q (omega arith)) ((proper_first q (m ∷ p)).1 (is.first, omega arith)))
    (λ above.
    let parts = and_parts (not (is_root q)) (is_proper_prefix q (m ∷ p)) above in
    let first = (proper_first q (m ∷ p)).0 parts.1 in
    let some = root_not q parts.0 in
    let shorter = first.1 in
    first_found (m ∷ p) q 1 (length (m ∷ p) - 1) (omega arith) (omega arith) first.0)

spread : (r a b l : Bool) → (((r && a) && l) || ((r && b) && l)) ≡ ((r && (a || b)) && l)
spread true true b true = refl
spread true true true false = refl
spread true true false false = refl
spread true false b l = refl
spread false a b l = refl

module _ {C : Type 0} where
  -- the paths above pieces at which nothing stands
  pub among_lacking : (es : Entries C) (pieces : List (Piece C)) (q : List (List ℕ)) → is_among (lacking_above es pieces) q ≡ (is_above pieces q && lacks es q)
  among_lacking es [] q = ap (λ b. b && lacks es q) (sym (and_right (not (is_root q)) false refl))
  among_lacking es (p ∷ ps) q =
      list_any-append (λ r. eq_by_cmp path_cmp q r) (filter (lacks es) (prefixes p.path)) (lacking_above es ps)
      ∙ (λ i. (among_filter (lacks es) q (prefixes p.path) ∙ ap (λ b. b && lacks es q) (among_prefixes p.path q)) i || among_lacking es ps q i)
      ∙ spread (not (is_root q)) (is_proper_prefix q p.path) (list_any (λ r. is_proper_prefix q r) (paths_of ps)) (lacks es q)

-- the proper prefixes of paths in one directory

prefixes_of_longer : (p : List (List ℕ)) (m names count : ℕ) → names + count ≤ suc m → prefixes_from (take m p) names count ≡ prefixes_from p names count
prefixes_of_longer p m names zero within = refl
prefixes_of_longer p m names (suc count) within = λ i. take-take names m p (omega arith) i ∷ prefixes_of_longer p m (suc names) count (omega arith) i

prefixes_by_parent : (p : List (List ℕ)) → prefixes_from (parent p) 1 (length (parent p)) ≡ prefixes p
prefixes_by_parent p =
    let long : length (parent p) ≡ length p - 1 = length-take-le (length p - 1) p (omega arith) in
    ap (λ n. prefixes_from (parent p) 1 n) long ∙ prefixes_of_longer p (length p - 1) 1 (length p - 1) (omega arith)

same_prefixes : (p q : List (List ℕ)) → parent p ≡ parent q → prefixes p ≡ prefixes q
same_prefixes p q same = sym (prefixes_by_parent p) ∙ ap (λ r. prefixes_from r 1 (length r)) same ∙ prefixes_by_parent q

twice : (a b : Bool) → (a || (a || b)) ≡ (a || b)
twice true b = refl
twice false b = refl

module _ {C : Type 0} where
  -- a list of paths that is left out comes again
  again : (es : Entries C) (piece next : Piece C) (pieces : List (Piece C)) (q : List (List ℕ)) → parent piece.path ≡ parent next.path
      → is_among (lacking_above es (next ∷ pieces)) q ≡ is_among (lacking_above es (piece ∷ next ∷ pieces)) q
  again es piece next pieces q same =
      let own = filter (lacks es) (prefixes next.path) in
      let rest = lacking_above es pieces in
      let Test : List (List ℕ) → Bool = λ r. eq_by_cmp path_cmp q r in
      let parts : is_among (own ++ rest) q ≡ (is_among own q || is_among rest q) = list_any-append Test own rest in
      let both : is_among (own ++ (own ++ rest)) q ≡ (is_among own q || is_among (own ++ rest) q) = list_any-append Test own (own ++ rest) in
      parts ∙ sym (twice (is_among own q) (is_among rest q)) ∙ sym (both ∙ ap (λ b. is_among own q || b) parts)
      ∙ ap (λ ps. is_among (filter (lacks es) ps ++ (own ++ rest)) q) (sym (same_prefixes piece.path next.path same))

  -- the same paths are among those of each directory once
  pub among_once : (es : Entries C) (pieces : List (Piece C)) (q : List (List ℕ)) → is_among (lacking_once es pieces) q ≡ is_among (lacking_above es pieces) q
  among_once es [] q = refl
  among_once es (piece ∷ []) q = refl
  among_once es (piece ∷ next ∷ pieces) q =
      let own = filter (lacks es) (prefixes piece.path) in
      let Test : List (List ℕ) → Bool = λ r. eq_by_cmp path_cmp q r in
      let all = lacking_above es (next ∷ pieces) in
      let once = lacking_once es (next ∷ pieces) in
      elim (eq_by_cmp path_cmp (parent piece.path) (parent next.path)) as (λ b. eq_by_cmp path_cmp (parent piece.path) (parent next.path) ≡ b → is_among (cond b [] own ++ once) q ≡ is_among (own ++ all) q) [
        | true ↦ λ beside. among_once es (next ∷ pieces) q ∙ again es piece next pieces q (same_path (parent piece.path) (parent next.path) beside)
        | false ↦ λ apart. list_any-append Test own once ∙ ap (λ b. is_among own q || b) (among_once es (next ∷ pieces) q) ∙ sym (list_any-append Test own all)
      ] refl

-- the made directories

pub lookup_made : (C : Type 0) (ps : List (List (List ℕ))) (q : List (List ℕ)) → lookup (made_at {C = C} ps) q ≡ cond (is_among ps q) (Some (made {C = C})) None
lookup_made C [] q = refl
lookup_made C (p ∷ ps) q =
    ap (cond (eq_by_cmp path_cmp q p) (Some (made {C = C}))) (lookup_made C ps q)
    ∙ elim (eq_by_cmp path_cmp q p) as (λ b. cond b (Some (made {C = C})) (cond (is_among ps q) (Some (made {C = C})) None) ≡ cond (b || is_among ps q) (Some (made {C = C})) None) [ true ↦ refl | false ↦ refl ]

below_made : (C : Type 0) (x : List (List ℕ)) (ps : List (List (List ℕ))) → AllByRecursion (λ r. path_cmp x r ≡ Less) ps → below_all path_cmp x (made_at {C = C} ps) ≡ true
below_made C x [] below = refl
below_made C x (p ∷ ps) below = and_from _ _ (ap is_lt below.0) (below_made C x ps below.1)

pub sorted_made : (C : Type 0) (ps : List (List (List ℕ))) → IsStrictlySortedBy path_cmp ps → is_sorted path_cmp (made_at {C = C} ps) ≡ true
unfolding IsStrictlySortedBy
sorted_made C [] sorted = refl
sorted_made C (p ∷ ps) sorted = and_from _ _ (below_made C p ps sorted.0) (sorted_made C ps sorted.1)
