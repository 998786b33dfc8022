-- The base, made in path order: what it has at each path, that it is a tree, and how many entries it has.
use Rattle.std.proofs.Common.{◌≡◌, ℕ, zero, suc, ◌+◌, ◌≤◌, Bool, true, false, cond, ◌||◌, List, [], ◌∷◌, ◌++◌, length, get_or, Option, Some, None, is_some, refl, sym, ap, ◌∙◌, subst, arith, length-append}
use Rattle.std.proofs.lemmas.Bool.{and_from, and_parts, false≢true, true≢false}
use Rattle.std.proofs.lemmas.Float.{T_from_true}
use Rattle.std.proofs.lemmas.List.Elements.{All-from_all_within, recursion_from_All}
use Rattle.std.proofs.lemmas.List.MinMax.{ranks_by}
use Rattle.std.proofs.lemmas.List.Sorted.{sorted_far}
use Rattle.std.specs.List.Sorted.{IsSorted}
use Rattle.std.specs.List.{AllByRecursion}
use Rattle.std.specs.Ordering.{eq_by_cmp, is_eq, is_gt, is_lt}
use Rattle.std.specs.declared.cmp.Ordering.{Ordering}
use Rattle.std.specs.declared.cmp.Ordering.TheVariants.{Less, Equal, Greater}
use Rattle.std.specs.FinMap.{is_sorted}
use Rattle.std.specs.FinMap.Entries.{below_all, find-where_key, is_sorted-where_key, where_key}
use Rattle.ext_lines.specs.ByteOrder.{bytes_cmp, bytes_total}
use Rattle.ext_text.specs.Order.{paths_exact}
use Rattle.ext_text.specs.Path.{IsPath, is_prefix, parent, path_cmp}
use Rattle.ext_text.proofs.ForCallers.{all_append, all_weaker, is_equal, is_greater, parent_prefix, same_name, true_from_T}
use Rattle.ext_tree.specs.Tree.{Entries, IsTree, IsTreeWithin, is_directory_at, is_directory_or_root, lookup, most_entries}
use Rattle.ext_tree.specs.declared.entry.Entry.{Entry}
use Rattle.ext_tree.proofs.ForCallers.{find-join}
use Rattle.ext_host.specs.Base.{base_entries, comes_after, comes_before, first_name_cmp, stands_at}
use Rattle.ext_host.specs.Host.{is_in}
use Rattle.ext_host.proofs.NameLemmas.{after_not_before, at_first, at_not_before, before_first, in_none, prefix_at}

-- each name does not come before those before it
abbrev pub AreRising : List (List ℕ) → Type 0
AreRising [] = Unit {0}
AreRising (n ∷ names) = AllByRecursion (λ m. is_lt (bytes_cmp m n) ≡ false) names × AreRising names

module _ {K X : Type 0} (R : K → K → Ordering) where
  below_each : (x : K) (es : List (K × X)) → AllByRecursion (λ e. R x e.0 ≡ Less) es → below_all R x es ≡ true
  below_each x [] each = refl
  below_each x (e ∷ es) each = and_from _ _ (ap is_lt each.0) (below_each x es each.1)

  below_join : (x : K) (es fs : List (K × X)) → below_all R x es ≡ true → below_all R x fs ≡ true → below_all R x (es ++ fs) ≡ true
  below_join x [] fs h k = k
  below_join x (e ∷ es) fs h k =
      let parts = and_parts (is_lt (R x e.0)) (below_all R x es) h in
      and_from _ _ parts.0 (below_join x es fs parts.1 k)

  -- what passes a first test comes before what passes a second one
  sorted_join : (P Q : K → Type 0) → ((x y : K) → P x → Q y → R x y ≡ Less) → (es fs : List (K × X)) → AllByRecursion (λ e. P e.0) es → AllByRecursion (λ e. Q e.0) fs → is_sorted R es ≡ true → is_sorted R fs ≡ true → is_sorted R (es ++ fs) ≡ true
  sorted_join P Q apart [] fs p q h k = k
  sorted_join P Q apart (e ∷ es) fs p q h k =
      let parts = and_parts (below_all R e.0 es) (is_sorted R es) h in
      and_from _ _ (below_join e.0 es fs parts.0 (below_each e.0 fs (all_weaker (λ f. Q f.0) (λ f. R e.0 f.0 ≡ Less) (λ f. apart e.0 f.0 p.0) fs q)))
      (sorted_join P Q apart es fs p.1 q parts.1 k)

  -- what a filter by keys keeps passes its test
  where_passes : (f : K → Bool) (es : List (K × X)) → AllByRecursion (λ e. f e.0 ≡ true) (where_key R f es)
  where_passes f [] = tt
  where_passes f (e ∷ es) =
      elim (f e.0) as (λ b. f e.0 ≡ b → AllByRecursion (λ e. f e.0 ≡ true) (cond b (e ∷ where_key R f es) (where_key R f es))) [
        | true ↦ λ in_. (in_, where_passes f es)
        | false ↦ λ _. where_passes f es
      ] refl

  -- and what held of all still holds
  where_holds : (P : K → Type 0) (f : K → Bool) (es : List (K × X)) → AllByRecursion (λ e. P e.0) es → AllByRecursion (λ e. P e.0) (where_key R f es)
  where_holds P f [] all = tt
  where_holds P f (e ∷ es) all =
      elim (f e.0) as (λ b. AllByRecursion (λ e. P e.0) (cond b (e ∷ where_key R f es) (where_key R f es))) [
        | true ↦ (all.0, where_holds P f es all.1)
        | false ↦ where_holds P f es all.1
      ]

  -- two tests that do not pass together
  count_apart : (f g : K → Bool) → ((x : K) → f x ≡ true → g x ≡ false) → (es : List (K × X)) → length (where_key R f es) + length (where_key R g es) ≤ length es
  count_apart f g apart [] = omega arith
  count_apart f g apart (e ∷ es) =
      let rest = count_apart f g apart es in
      elim (f e.0) as (λ b. f e.0 ≡ b → length (cond b (e ∷ where_key R f es) (where_key R f es)) + length (cond (g e.0) (e ∷ where_key R g es) (where_key R g es)) ≤ length (e ∷ es)) [
        | true ↦ λ in_. subst (λ b. length (e ∷ where_key R f es) + length (cond b (e ∷ where_key R g es) (where_key R g es)) ≤ length (e ∷ es)) (sym (apart e.0 in_)) (omega arith)
        | false ↦ λ _. elim (g e.0) as (λ b. length (where_key R f es) + length (cond b (e ∷ where_key R g es) (where_key R g es)) ≤ length (e ∷ es)) [ true ↦ omega arith | false ↦ omega arith ]
      ] refl

-- the first of two look-ups that finds something
abbrev first_found : {X : Type 0} → Option X → Option X → Option X
first_found o w = cond (is_some o) o w

either_way : {X : Type 0} (b : Bool) (o : Option X) → cond b o o ≡ o
either_way b o = elim b as (λ t. cond t o o ≡ o) [ true ↦ refl | false ↦ refl ]

-- what three parts have at a path, by how the name stands to it
parted : {X : Type 0} (o : Ordering) (later : Bool) (r l : Option X) → (is_gt o ≡ true → later ≡ false) →
    cond (is_some (cond (is_gt o) r None)) (cond (is_gt o) r None) (cond (is_some (cond (is_eq o) l None)) (cond (is_eq o) l None) (cond later (cond (is_lt o) l None) (cond (is_lt o) r None)))
    ≡ cond (is_eq o || later) l r
parted Less later r l none = refl
parted Equal later r None none = either_way later None
parted Equal later r (Some x) none = refl
parted Greater later None l none = (λ i. cond (none refl i) None None) ∙ (λ i. cond (sym (none refl) i) l None)
parted Greater later (Some x) l none = λ i. cond (sym (none refl) i) l (Some x)

module _ {C : Type 0} where
  lookup_where : (f : List (List ℕ) → Bool) (p : List (List ℕ)) (es : Entries C) → lookup (where_key path_cmp f es) p ≡ cond (f p) (lookup es p) None
  lookup_where f p es = find-where_key path_cmp f p (λ x tied. ap f (sym (paths_exact p x tied))) es

  pub lookup_base : (names : List (List ℕ)) → AreRising names → (root lower : Entries C) (p : List (List ℕ)) → lookup (base_entries names root lower) p ≡ cond (is_in names p) (lookup lower p) (lookup root p)
  lookup_base [] rising root lower p = refl
  lookup_base (n ∷ names) rising root lower p =
      let a = where_key path_cmp (comes_before n) root in
      let b = where_key path_cmp (stands_at n) lower in
      let rest = base_entries names (where_key path_cmp (comes_after n) root) (where_key path_cmp (comes_after n) lower) in
      let at_rest : lookup rest p ≡ cond (is_in names p) (cond (comes_after n p) (lookup lower p) None) (cond (comes_after n p) (lookup root p) None) =
      lookup_base names rising.1 (where_key path_cmp (comes_after n) root) (where_key path_cmp (comes_after n) lower) p
      ∙ (λ i. cond (is_in names p) (lookup_where (comes_after n) p lower i) (lookup_where (comes_after n) p root i))
      in
      find-join path_cmp p a (b ++ rest)
      ∙ (λ i. first_found (lookup a p) (find-join path_cmp p b rest i))
      ∙ (λ i. first_found (lookup_where (comes_before n) p root i) (first_found (lookup_where (stands_at n) p lower i) (at_rest i)))
      ∙ parted (first_name_cmp n p) (is_in names p) (lookup root p) (lookup lower p) (λ before. in_none n names p rising.0 before)
      ∙ (λ i. cond (sym (prefix_at n p) i || is_in names p) (lookup lower p) (lookup root p))

  -- what holds of the paths of both holds of the base's
  base_holds : (P : List (List ℕ) → Type 0) (names : List (List ℕ)) (root lower : Entries C) → AllByRecursion (λ e. P e.0) root → AllByRecursion (λ e. P e.0) lower → AllByRecursion (λ e. P e.0) (base_entries names root lower)
  base_holds P [] root lower r l = r
  base_holds P (n ∷ names) root lower r l =
      all_append (λ e. P e.0) _ _ (where_holds path_cmp P (comes_before n) root r)
      (all_append (λ e. P e.0) _ _ (where_holds path_cmp P (stands_at n) lower l)
      (base_holds P names _ _ (where_holds path_cmp P (comes_after n) root r) (where_holds path_cmp P (comes_after n) lower l)))

  where_sorted : (f : List (List ℕ) → Bool) (es : Entries C) → is_sorted path_cmp es ≡ true → is_sorted path_cmp (where_key path_cmp f es) ≡ true
  where_sorted f es sorted = true_from_T _ (is_sorted-where_key path_cmp f es (T_from_true _ sorted))

  pub sorted_base : (names : List (List ℕ)) (root lower : Entries C) → is_sorted path_cmp root ≡ true → is_sorted path_cmp lower ≡ true → is_sorted path_cmp (base_entries names root lower) ≡ true
  sorted_base [] root lower r l = r
  sorted_base (n ∷ names) root lower r l =
      let a = where_key path_cmp (comes_before n) root in
      let b = where_key path_cmp (stands_at n) lower in
      let root_after = where_key path_cmp (comes_after n) root in
      let lower_after = where_key path_cmp (comes_after n) lower in
      let rest = base_entries names root_after lower_after in
      let is_after : AllByRecursion (λ e. comes_after n e.0 ≡ true) rest = base_holds (λ p. comes_after n p ≡ true) names root_after lower_after (where_passes path_cmp (comes_after n) root) (where_passes path_cmp (comes_after n) lower) in
      let is_at : AllByRecursion (λ e. stands_at n e.0 ≡ true) b = where_passes path_cmp (stands_at n) lower in
      let tail : is_sorted path_cmp (b ++ rest) ≡ true =
      sorted_join path_cmp (λ p. stands_at n p ≡ true) (λ p. comes_after n p ≡ true) (at_first n) b rest is_at is_after (where_sorted (stands_at n) lower l)
      (sorted_base names root_after lower_after (where_sorted (comes_after n) root r) (where_sorted (comes_after n) lower l))
      in
      sorted_join path_cmp (λ p. comes_before n p ≡ true) (λ p. comes_before n p ≡ false) (before_first n) a (b ++ rest) (where_passes path_cmp (comes_before n) root)
      (all_append (λ e. comes_before n e.0 ≡ false) b rest
      (all_weaker (λ e. stands_at n e.0 ≡ true) (λ e. comes_before n e.0 ≡ false) (λ e. at_not_before n e.0) b is_at)
      (all_weaker (λ e. comes_after n e.0 ≡ true) (λ e. comes_before n e.0 ≡ false) (λ e. after_not_before n e.0) rest is_after))
      (where_sorted (comes_before n) root r) tail

  -- what comes before a name and what comes after it, and what is at it and what comes after it
  pub root_parts : (n : List ℕ) (es : Entries C) → length (where_key path_cmp (comes_before n) es) + length (where_key path_cmp (comes_after n) es) ≤ length es
  root_parts n es = count_apart path_cmp (comes_before n) (comes_after n) (λ p before. ap is_lt (is_greater (first_name_cmp n p) before)) es

  pub lower_parts : (n : List ℕ) (es : Entries C) → length (where_key path_cmp (stands_at n) es) + length (where_key path_cmp (comes_after n) es) ≤ length es
  lower_parts n es = count_apart path_cmp (stands_at n) (comes_after n) (λ p at. ap is_lt (is_equal (first_name_cmp n p) at)) es

  pub length-base : (names : List (List ℕ)) (root lower : Entries C) → length (base_entries names root lower) ≤ length root + length lower
  length-base [] root lower = omega arith
  length-base (n ∷ names) root lower =
      let a = where_key path_cmp (comes_before n) root in
      let b = where_key path_cmp (stands_at n) lower in
      let root_after = where_key path_cmp (comes_after n) root in
      let lower_after = where_key path_cmp (comes_after n) lower in
      let rest = base_entries names root_after lower_after in
      let r = root_parts n root in
      let l = lower_parts n lower in
      let more : length rest ≤ length root_after + length lower_after = length-base names root_after lower_after in
      let whole : length (a ++ (b ++ rest)) ≡ length a + (length b + length rest) = length-append a (b ++ rest) ∙ ap (λ k. length a + k) (length-append b rest) in
      omega arith

module _ {C : Type 0} (names : List (List ℕ)) (root lower es : Entries C) (says : (p : List (List ℕ)) → lookup es p ≡ cond (is_in names p) (lookup lower p) (lookup root p)) where
  in_root : is_in names [] ≡ false
  in_root = in_nothing names
    where
      in_nothing : (ns : List (List ℕ)) → is_in ns [] ≡ false
      in_nothing [] = refl
      in_nothing (n ∷ ns) = in_nothing ns

  -- the parent of a path, where it isn't the root, is in the same names
  same_names : (p q : List (List ℕ)) (m : List ℕ) → is_prefix (m ∷ q) p ≡ true → is_in names (m ∷ q) ≡ is_in names p
  same_names [] q m prefix = absurd (false≢true prefix)
  same_names (a ∷ p) q m prefix =
      let same : m ≡ a = same_name m a (and_parts (eq_by_cmp bytes_cmp m a) (is_prefix q p) prefix).0 in
      ap (λ k. is_in names (k ∷ p)) same

  module _ (r : IsTree root) (l : IsTree lower) where
    -- a fact of what is found follows from that fact in both trees
    each_way : (P : Option (Entry C) → Type 0) (p : List (List ℕ)) → (is_in names p ≡ true → P (lookup lower p)) → (is_in names p ≡ false → P (lookup root p)) → P (lookup es p)
    each_way P p there here =
        subst P (sym (says p))
        (elim (is_in names p) as (λ b. is_in names p ≡ b → P (cond b (lookup lower p) (lookup root p))) [
          | true ↦ there
          | false ↦ here
        ] refl)

    paths_base : (p : List (List ℕ)) → is_some (lookup es p) ≡ true → IsPath p
    paths_base p = each_way (λ o. is_some o ≡ true → IsPath p) p (λ _. l.paths p) (λ _. r.paths p)

    parents_at : (p q : List (List ℕ)) → is_prefix q p ≡ true → (is_in names p ≡ true → is_directory_or_root lower q ≡ true) → (is_in names p ≡ false → is_directory_or_root root q ≡ true) → is_directory_or_root es q ≡ true
    parents_at p [] prefix there here = refl
    parents_at p (m ∷ q) prefix there here =
        let same = same_names p q m prefix in
        each_way (λ o. is_directory_at o ≡ true) (m ∷ q) (λ in_. there (sym same ∙ in_)) (λ out. here (sym same ∙ out))

    parents_base : (p : List (List ℕ)) → is_some (lookup es p) ≡ true → is_directory_or_root es (parent p) ≡ true
    parents_base p =
        each_way (λ o. is_some o ≡ true → is_directory_or_root es (parent p) ≡ true) p
        (λ in_ found. parents_at p (parent p) (parent_prefix p) (λ _. l.parents p found) (λ out. absurd (true≢false (sym in_ ∙ out))))
        (λ out found. parents_at p (parent p) (parent_prefix p) (λ in_. absurd (true≢false (sym in_ ∙ out))) (λ _. r.parents p found))

    pub tree_base : is_sorted path_cmp es ≡ true → IsTree es
    tree_base sorted = record {
      sorted = sorted;
      root = says [] ∙ (λ i. cond (in_root i) (lookup lower []) (lookup root [])) ∙ r.root;
      paths = paths_base;
      parents = parents_base;
    }

pub rising_names : (names : List (List ℕ)) → IsSorted bytes_cmp names → AreRising names
rising_names [] up = tt
rising_names (n ∷ names) up = (
  recursion_from_All (λ m. is_lt (bytes_cmp m n) ≡ false) names (All-from_all_within (λ m. is_lt (bytes_cmp m n) ≡ false) names (λ j d low high. sorted_far (λ x y. is_lt (bytes_cmp x y)) (ranks_by bytes_total (λ x. x)) (n ∷ names) up zero (suc j) d (omega arith) (omega arith))),
  rising_names names (λ k d low high. let next : suc k + 1 ≡ suc (k + 1) = omega arith in subst (λ i. is_lt (bytes_cmp (get_or (n ∷ names) i d) (get_or names k d)) ≡ false) next (up (suc k) d (omega arith) (omega arith))),
)

pub base_within : {C : Type 0} (names : List (List ℕ)) (root lower : Entries C) → AreRising names → IsTree root → IsTree lower → length root + length lower ≤ most_entries → IsTreeWithin (base_entries names root lower)
base_within names root lower rising r l few = record {
  tree = tree_base names root lower (base_entries names root lower) (lookup_base names rising root lower) r l (sorted_base names root lower r.sorted l.sorted);
  count = (let c = length-base names root lower in omega arith);
}
