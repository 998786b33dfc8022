-- A part hung into a tree: what is found in the made directories and in the part below the path, and that both are in
-- order.
use Rattle.std.proofs.Common.{◌≡◌, ◌≢◌, ℕ, suc, zero, ◌+◌, ◌-◌, ◌<◌, ◌≤◌, Bool, true, false, cond, List, [], ◌∷◌, ◌++◌, length, take, drop, Option, Some, None, is_some, refl, sym, ap, ◌∙◌, subst, arith, length-take, length-drop}
use mathlib.Core.Logic.{inl, inr}
use Rattle.std.specs.Prelude.{◌⊎◌, map}
use Rattle.std.specs.List.{AllByRecursion}
use Rattle.std.specs.Cmp.{IsTotalOrder, tied_itself}
use Rattle.std.specs.Ordering.{is_eq, is_lt, eq_by_cmp}
use Rattle.std.specs.declared.cmp.Ordering.{Ordering}
use Rattle.std.specs.declared.cmp.Ordering.TheVariants.{Less}
use Rattle.std.specs.FinMap.{find, is_sorted}
use Rattle.std.specs.FinMap.Entries.{below_all}
use Rattle.std.proofs.lemmas.Bool.{and_parts, and_from, true≢false, false≢true, false_from_ne_true}
use Rattle.ext_text.specs.Path.{path_cmp, is_prefix}
use Rattle.ext_text.specs.Order.{paths_total}
use Rattle.ext_text.proofs.ForCallers.{same_path, tied_path, prefix_short, prefix_whole, prefix_less, prefix_trans, prefix_take, take_prefix}
use Rattle.ext_tree.specs.declared.entry.Entry.{Entry}
use Rattle.ext_tree.specs.Tree.{Entries, lookup}
use Rattle.ext_tree.specs.Graft.{made}
use Rattle.ext_tree.specs.Grafting.{added, directories, hung}
use Rattle.ext_tree.proofs.OrderLemmas.{find-join, each_found}
use Rattle.ext_tree.proofs.PartLemmas.{cmp_prefix, prefix_append, prefix_split}

module _ {K X : Type 0} (R : K → K → Ordering) where
  below_join : (x : K) (es fs : List (K × X)) → below_all R x es ≡ true → below_all R x fs ≡ true → below_all R x (es ++ fs) ≡ true
  below_join x [] fs first second = second
  below_join x (e ∷ es) fs first second =
      let parts = and_parts (is_lt (R x e.0)) (below_all R x es) first in
      and_from _ _ parts.0 (below_join x es fs parts.1 second)

  below_each : (x : K) (fs : List (K × X)) → AllByRecursion (λ f. R x f.0 ≡ Less) fs → below_all R x fs ≡ true
  below_each x [] all = refl
  below_each x (f ∷ fs) all = and_from _ _ (ap is_lt all.0) (below_each x fs all.1)

  -- two lists in order, what is found in the first below what is found in the second
  pub sorted_join : IsTotalOrder R → (es fs : List (K × X)) → is_sorted R es ≡ true → is_sorted R fs ≡ true → ((q r : K) → is_some (find R q es) ≡ true → is_some (find R r fs) ≡ true → R q r ≡ Less) → is_sorted R (es ++ fs) ≡ true
  sorted_join o [] fs first second below = second
  sorted_join o (e ∷ es) fs first second below =
      let parts = and_parts (below_all R e.0 es) (is_sorted R es) first in
      and_from _ _
      (below_join e.0 es fs parts.0 (below_each e.0 fs (each_found R o (λ r. R e.0 r ≡ Less) fs (λ r there. below e.0 r (ap (λ t. is_some (cond (is_eq t) (Some e.1) (find R e.0 es))) (tied_itself o e.0)) there))))
      (sorted_join o es fs parts.1 second (λ q r here there. below q r (later q here) there))
    where
      later : (q : K) → is_some (find R q es) ≡ true → is_some (find R q (e ∷ es)) ≡ true
      later q here = elim (eq_by_cmp R q e.0) as (λ b. is_some (cond b (Some e.1) (find R q es)) ≡ true) [ true ↦ refl | false ↦ here ]

-- below the path as in the part, and nowhere else
pub find_hung : {C : Type 0} (p q : List (List ℕ)) (u : Entries C) → lookup (map (hung p) u) q ≡ cond (is_prefix p q) (lookup u (drop (length p) q)) None
find_hung {C = C} p q [] = elim (is_prefix p q) as (λ b. ◌≡◌ {A = Option (Entry C)} None (cond b None None)) [ true ↦ refl | false ↦ refl ]
find_hung p q (e ∷ u) =
    elim (is_prefix p q) as (λ b. is_prefix p q ≡ b → lookup (map (hung p) u) q ≡ cond b (lookup u (drop (length p) q)) None → cond (eq_by_cmp path_cmp q (p ++ e.0)) (Some e.1) (lookup (map (hung p) u) q) ≡ cond b (cond (eq_by_cmp path_cmp (drop (length p) q) e.0) (Some e.1) (lookup u (drop (length p) q))) None) [
      | true ↦ λ below rest.
          let same : path_cmp q (p ++ e.0) ≡ path_cmp (drop (length p) q) e.0 = ap (λ x. path_cmp x (p ++ e.0)) (prefix_split p q below) ∙ cmp_prefix p (drop (length p) q) e.0 in
          λ i. cond (is_eq (same i)) (Some e.1) (rest i)
      | false ↦ λ out rest. ap (λ b. cond b (Some e.1) (lookup (map (hung p) u) q)) (false_from_ne_true (eq_by_cmp path_cmp q (p ++ e.0)) (λ tied. false≢true (sym out ∙ ap (is_prefix p) (same_path q (p ++ e.0) tied) ∙ prefix_append p e.0))) ∙ rest
    ] refl (find_hung p q u)

below_hung : {C : Type 0} (p x : List (List ℕ)) (u : Entries C) → below_all path_cmp x u ≡ true → below_all path_cmp (p ++ x) (map (hung p) u) ≡ true
below_hung p x [] below = refl
below_hung p x (e ∷ u) below =
    let parts = and_parts (is_lt (path_cmp x e.0)) (below_all path_cmp x u) below in
    and_from _ _ (ap is_lt (cmp_prefix p x e.0) ∙ parts.0) (below_hung p x u parts.1)

pub sorted_hung : {C : Type 0} (p : List (List ℕ)) (u : Entries C) → is_sorted path_cmp u ≡ true → is_sorted path_cmp (map (hung p) u) ≡ true
sorted_hung p [] sorted = refl
sorted_hung p (e ∷ u) sorted =
    let parts = and_parts (below_all path_cmp e.0 u) (is_sorted path_cmp u) sorted in
    and_from _ _ (below_hung p e.0 u parts.0) (sorted_hung p u parts.1)

-- one more at the end
pub directories_more : {C : Type 0} (p : List (List ℕ)) (names count : ℕ) → directories {C = C} p names (suc count) ≡ directories p names count ++ (take (names + count) p, made) ∷ []
directories_more p names zero = ap (λ k. (take k p, made) ∷ []) (zero_more names)
  where
    zero_more : (n : ℕ) → n ≡ n + zero
    zero_more n = omega arith
directories_more p names (suc count) = ap (λ es. (take names p, made) ∷ es) (directories_more p (suc names) count ∙ ap (λ k. directories p (suc names) count ++ (take k p, made) ∷ []) (shift names count))
  where
    shift : (n k : ℕ) → suc n + k ≡ n + suc k
    shift n k = omega arith

-- how many the first names are
length_first : (k : ℕ) (p : List (List ℕ)) → k ≤ length p → length (take k p) ≡ k
length_first k p short = omega (arith, length-take k p)

-- a prefix is that many first names
prefix_is_take : (q p : List (List ℕ)) → is_prefix q p ≡ true → q ≡ take (length q) p
prefix_is_take q p prefix =
    prefix_whole q (take (length q) p) (prefix_take (length q) q p prefix (omega arith))
    (sym (length_first (length q) p (prefix_short q p prefix)))

-- such a directory is found at each prefix of the path of as many names, and nothing else is
pub directories_hit : {C : Type 0} (p q : List (List ℕ)) (names count : ℕ) → is_prefix q p ≡ true → names ≤ length q → length q < names + count → lookup (directories {C = C} p names count) q ≡ Some made
directories_hit p q names zero prefix low high = absurd (omega arith)
directories_hit {C = C} p q names (suc count) prefix low high =
    elim (eq_by_cmp path_cmp q (take names p)) as (λ b. eq_by_cmp path_cmp q (take names p) ≡ b → cond b (Some (made {C = C})) (lookup (directories p (suc names) count) q) ≡ Some made) [
      | true ↦ λ _. refl
      | false ↦ λ other. directories_hit p q (suc names) count prefix (omega (arith, apart other)) (omega arith)
    ] refl
  where
    apart : eq_by_cmp path_cmp q (take names p) ≡ false → length q ≢ names
    apart other same = false≢true (sym other ∙ tied_path q (take names p) (prefix_is_take q p prefix ∙ ap (λ k. take k p) same))

pub directories_miss : (C : Type 0) (p q : List (List ℕ)) (names count : ℕ) → names + count ≤ length p + 1 → is_some (lookup (directories {C = C} p names count) q) ≡ true → (is_prefix q p ≡ true) × (names ≤ length q) × (length q < names + count)
directories_miss C p q names zero within there = absurd (false≢true there)
directories_miss C p q names (suc count) within there =
    elim (eq_by_cmp path_cmp q (take names p)) as (λ b. eq_by_cmp path_cmp q (take names p) ≡ b → is_some (cond b (Some (made {C = C})) (lookup (directories p (suc names) count) q)) ≡ true → (is_prefix q p ≡ true) × (names ≤ length q) × (length q < names + suc count)) [
      | true ↦ λ tied _.
          let same : q ≡ take names p = same_path q (take names p) tied in
          let long : length q ≡ names = ap length same ∙ length_first names p (omega arith) in
          (subst (λ r. is_prefix r p ≡ true) (sym same) (take_prefix names p), omega (arith, long), omega (arith, long))
      | false ↦ λ _ more.
          let rest = directories_miss C p q (suc names) count (omega arith) more in
          (rest.0, omega (arith, rest.1), omega (arith, rest.2))
    ] refl there

pub sorted_directories : (C : Type 0) (p : List (List ℕ)) (names count : ℕ) → names + count ≤ length p + 1 → is_sorted path_cmp (directories {C = C} p names count) ≡ true
sorted_directories C p names zero within = refl
sorted_directories C p names (suc count) within =
    and_from _ _
    (below_each path_cmp (take names p) (directories {C = C} p (suc names) count) (each_found path_cmp paths_total (λ r. path_cmp (take names p) r ≡ Less) (directories p (suc names) count) less))
    (sorted_directories C p (suc names) count (omega arith))
  where
    less : (r : List (List ℕ)) → is_some (lookup (directories {C = C} p (suc names) count) r) ≡ true → path_cmp (take names p) r ≡ Less
    less r there =
        let at = directories_miss C p r (suc names) count (omega arith) there in
        let long : length (take names p) ≡ names = length_first names p (omega arith) in
        prefix_less (take names p) r
        (subst (λ s. is_prefix (take names p) s ≡ true) (sym (prefix_is_take r p at.0)) (prefix_take (length r) (take names p) p (take_prefix names p) (omega (arith, long, at.1))))
        (omega (arith, long, at.1))

pub no_some : {A : Type 0} (o : Option A) → (is_some o ≡ true → ⊥) → o ≡ None
no_some None none = refl
no_some (Some x) none = absurd (none refl)

-- what is found in two lists is found in one of them
pub join_found : {K X : Type 0} (R : K → K → Ordering) (q : K) (es fs : List (K × X)) → is_some (find R q (es ++ fs)) ≡ true → (is_some (find R q es) ≡ true) ⊎ (is_some (find R q fs) ≡ true)
join_found R q es fs there = which (find R q es) (find R q fs) (sym (ap is_some (find-join R q es fs)) ∙ there)
  where
    which : {X : Type 0} (a b : Option X) → is_some (cond (is_some a) a b) ≡ true → (is_some a ≡ true) ⊎ (is_some b ≡ true)
    which None b there = inr there
    which (Some x) b there = inl refl

-- no made directory is there but at the path and at its prefixes that do not stand
no_directory : (C : Type 0) (p q : List (List ℕ)) (standing : ℕ) → standing < length p → (is_prefix q p ≡ true → length q ≤ standing) → lookup (directories {C = C} p (suc standing) (length p - standing)) q ≡ None
no_directory C p q standing short at =
    no_some (lookup (directories {C = C} p (suc standing) (length p - standing)) q) (λ there.
    let is = directories_miss C p q (suc standing) (length p - standing) (omega arith) there in
    let low : length q ≤ standing = at is.0 in
    let high : suc standing ≤ length q = is.1 in
    omega arith)

-- where no made directory is, the part decides
found_hung : {C : Type 0} (p q : List (List ℕ)) (standing : ℕ) (u : Entries C) → standing < length p → (is_prefix q p ≡ true → length q ≤ standing) → lookup (added p standing u) q ≡ cond (is_prefix p q) (lookup u (drop (length p) q)) None
found_hung {C = C} p q standing u short at =
    find-join path_cmp q (directories {C = C} p (suc standing) (length p - standing)) (map (hung p) u)
    ∙ ap (λ d. cond (is_some d) d (lookup (map (hung p) u) q)) (no_directory C p q standing short at)
    ∙ find_hung p q u

-- below the path the part's entries are found
pub added_below : {C : Type 0} (p q : List (List ℕ)) (standing : ℕ) (u : Entries C) → standing < length p → is_prefix p q ≡ true → is_prefix q p ≡ false → lookup (added p standing u) q ≡ lookup u (drop (length p) q)
added_below p q standing u short below out =
    found_hung p q standing u short (λ prefix. absurd (true≢false (sym prefix ∙ out))) ∙ ap (λ b. cond b (lookup u (drop (length p) q)) None) below

-- at the path, and at a prefix of it that does not stand, a made directory is found
pub added_made : {C : Type 0} (p q : List (List ℕ)) (standing : ℕ) (u : Entries C) → is_prefix q p ≡ true → standing < length q → lookup (added p standing u) q ≡ Some made
added_made {C = C} p q standing u prefix long =
    let short : length q ≤ length p = prefix_short q p prefix in
    find-join path_cmp q (directories {C = C} p (suc standing) (length p - standing)) (map (hung p) u)
    ∙ ap (λ d. cond (is_some d) d (lookup (map (hung p) u) q)) (directories_hit p q (suc standing) (length p - standing) prefix (omega arith) (omega arith))

-- and nothing elsewhere
pub added_none : {C : Type 0} (p q : List (List ℕ)) (standing : ℕ) (u : Entries C) → standing < length p → is_prefix p q ≡ false → (is_prefix q p ≡ true → length q ≤ standing) → lookup (added p standing u) q ≡ None
added_none p q standing u short out at =
    found_hung p q standing u short at ∙ ap (λ b. cond b (lookup u (drop (length p) q)) None) out

-- what is found is at or below the path, or at a prefix of it that does not stand
pub added_there : {C : Type 0} (p q : List (List ℕ)) (standing : ℕ) (u : Entries C) → standing < length p → is_some (lookup (added p standing u) q) ≡ true → (is_prefix p q ≡ true) ⊎ ((is_prefix q p ≡ true) × (standing < length q))
added_there {C = C} p q standing u short there =
    elim (join_found path_cmp q (directories {C = C} p (suc standing) (length p - standing)) (map (hung p) u) there) [
      | inl made_there ↦
          let is = directories_miss C p q (suc standing) (length p - standing) (omega arith) made_there in
          inr (is.0, omega (arith, is.1))
      | inr hung_there ↦ inl (below (is_prefix p q) (lookup u (drop (length p) q)) (sym (ap is_some (find_hung p q u)) ∙ hung_there))
    ]
  where
    below : (b : Bool) (o : Option (Entry C)) → is_some (cond b o None) ≡ true → b ≡ true
    below true o there = refl
    below false o there = absurd (false≢true there)

-- all of it is in order, where the root is no entry of the part
pub sorted_added : {C : Type 0} (p : List (List ℕ)) (standing : ℕ) (u : Entries C) → standing < length p → is_sorted path_cmp u ≡ true → lookup u [] ≡ None → is_sorted path_cmp (added p standing u) ≡ true
sorted_added {C = C} p standing u short sorted root =
    sorted_join path_cmp paths_total (directories {C = C} p (suc standing) (length p - standing)) (map (hung p) u)
    (sorted_directories C p (suc standing) (length p - standing) (omega arith)) (sorted_hung p u sorted) less
  where
    long : (r : List (List ℕ)) → is_some (lookup u r) ≡ true → 0 < length r
    long [] there = absurd (false≢true (sym (ap is_some root) ∙ there))
    long (n ∷ r) there = omega arith

    longer : (r : List (List ℕ)) → is_prefix p r ≡ true → is_some (lookup u (drop (length p) r)) ≡ true → length p < length r
    longer r below there = omega (arith, long (drop (length p) r) there, length-drop (length p) r)

    less : (q r : List (List ℕ)) → is_some (lookup (directories {C = C} p (suc standing) (length p - standing)) q) ≡ true → is_some (lookup (map (hung p) u) r) ≡ true → path_cmp q r ≡ Less
    less q r here there =
        let is = directories_miss C p q (suc standing) (length p - standing) (omega arith) here in
        elim (is_prefix p r) as (λ b. is_prefix p r ≡ b → is_some (cond b (lookup u (drop (length p) r)) None) ≡ true → path_cmp q r ≡ Less) [
          | true ↦ λ below found.
              let high : length p < length r = longer r below found in
              let low : length q ≤ length p = prefix_short q p is.0 in
              prefix_less q r (prefix_trans q p r is.0 below) (omega arith)
          | false ↦ λ _ none. absurd (false≢true none)
        ] refl (sym (ap is_some (find_hung p r u)) ∙ there)
