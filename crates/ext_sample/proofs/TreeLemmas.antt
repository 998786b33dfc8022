-- What was put is the tree of the files.
use Rattle.std.proofs.Common.{◌≡◌, ℕ, suc, zero, ◌<◌, ◌≤◌, Bool, true, false, cond, ◌||◌, All, List, [], ◌∷◌, length, Option, Some, None, is_some, refl, sym, ap, subst, ◌∙◌, arith}
use Rattle.std.specs.Prelude.{IfSome}
use Rattle.std.specs.List.{AllByRecursion, list_any}
use Rattle.std.specs.List.Sorted.{IsStrictlySortedBy}
use Rattle.std.specs.Map.{keys_of, values_of}
use Rattle.std.specs.BTreeMap.{is_at}
use Rattle.std.specs.FinMap.{is_sorted}
use Rattle.std.specs.FinMap.Entries.{below_all}
use Rattle.std.specs.Option.{option_map, option_or}
use Rattle.std.specs.Ordering.{is_lt}
use Rattle.std.specs.declared.cmp.Ordering.TheVariants.{Less}
use Rattle.std.proofs.lemmas.Bool.{and_from, false≢true, or_right}
use Rattle.std.proofs.lemmas.Cmp.{eq_by_cmp_equiv}
use Rattle.std.proofs.lemmas.List.Elements.{All-head, All-tail}
use Rattle.std.proofs.lemmas.Map.Keys.{IsDistinct-from_sorted}
use Rattle.std.proofs.lemmas.Map.Views.{All-values_from_lookup}
use Rattle.sha2.specs.Sha256.{digest_bytes, sha256}
use Rattle.sha2.proofs.Facts256.{length-sha256}
use Rattle.ext_attributes.specs.Attributes.{of_mode}
use Rattle.ext_attributes.proofs.ForCallers.{mode_in_range, plain_in_range}
use Rattle.ext_text.specs.Digest.{IsDigest}
use Rattle.ext_text.specs.Order.{paths_total}
use Rattle.ext_text.specs.Path.{IsPath, path_cmp, is_prefix, parent}
use Rattle.ext_text.proofs.ForCallers.{all_append, length-parent, parent_prefix, prefix_first, prefix_path, prefix_self, prefix_short, prefix_trans, same_path}
use Rattle.ext_tree.specs.EntryLine.{IsWritable}
use Rattle.ext_tree.specs.Tree as trees
use Rattle.ext_tree.specs.TreeText.{AreWritable, stamp_form}
use Rattle.ext_tree.specs.declared.entry.Entry.{Entry}
use Rattle.ext_tree.specs.declared.entry.Entry.TheVariants.{Dir}
use Rattle.ext_tree.specs.declared.stamp.Stamp.{Stamp}
use Rattle.ext_sample.specs.Made.{IsTreeOf, MadeFile, has_made, is_above, made_bytes, made_entry, made_file}
use Rattle.ext_sample.specs.Making.{IsSmallFile, PutsDirectories, PutsFiles, entry_at}
use Rattle.ext_sample.proofs.LookupLemmas.{above_is, is_above_from}

-- a look-up in a tree is one in the map
lookup_is : (q : List (List ℕ)) (es : trees.Entries Stamp) → trees.lookup es q ≡ entry_at es q
lookup_is q [] = refl
lookup_is q (e ∷ es) = ap (cond (is_at (path_cmp q) e.0) (Some e.1)) (lookup_is q es)

below_from : (k : List (List ℕ)) (es : trees.Entries Stamp) → AllByRecursion (λ y. path_cmp k y ≡ Less) (keys_of es) → below_all path_cmp k es ≡ true
below_from k [] all = refl
below_from k (e ∷ es) all = and_from _ _ (ap is_lt all.0) (below_from k es all.1)

rising : (es : trees.Entries Stamp) → IsStrictlySortedBy path_cmp (keys_of es) → is_sorted path_cmp es ≡ true
unfolding IsStrictlySortedBy
rising [] sorted = refl
rising (e ∷ es) sorted = and_from _ _ (below_from e.0 es sorted.0) (rising es sorted.1)

digest_each : (h : List ℕ) (n : ℕ) → AllByRecursion (λ b. b < 256) (digest_bytes h n)
unfolding digest_bytes
digest_each h zero = tt
digest_each h (suc n) = all_append (λ b. b < 256) (digest_bytes h n) _ (digest_each h n) (omega arith, (omega arith, (omega arith, (omega arith, tt))))

digest_is : (bytes : List ℕ) → IsDigest (sha256 bytes)
unfolding sha256
digest_is bytes = record { count = length-sha256 bytes; each = digest_each _ 8 }

-- what is above a path is a prefix of it
above_prefix : (q path : List (List ℕ)) → is_above q path ≡ true → is_prefix q path ≡ true
above_prefix q path is = (prefix_first q path).1 (above_is q path is).first

-- a prefix of a path has its own parent above the path
parent_above : (q path : List (List ℕ)) → 0 < length q → 0 < length (parent q) → is_prefix q path ≡ true → is_above (parent q) path ≡ true
parent_above q path some upper is =
    let whole = (prefix_first (parent q) path).0 (prefix_trans (parent q) q path (parent_prefix q) is) in
    is_above_from (parent q) path (record {
      some = upper;
      shorter = omega (arith, length-parent q some, prefix_short q path is);
      first = whole;
    })

-- the path is a prefix of one of the files' paths
abbrev reaches : List MadeFile → List (List ℕ) → Bool
reaches files q = list_any (λ file. is_prefix q file.0) files

above_reaches : (files : List MadeFile) (q : List (List ℕ)) → has_made files q ≡ true → reaches files q ≡ true
above_reaches [] q is = is
above_reaches (file ∷ files) q is =
    elim (is_above q file.0) as (λ b. is_above q file.0 ≡ b → (b || has_made files q) ≡ true → (is_prefix q file.0 || reaches files q) ≡ true) [
      | true ↦ λ above _. ap (λ b. b || reaches files q) (above_prefix q file.0 above)
      | false ↦ λ _ more. or_right (is_prefix q file.0) (reaches files q) (above_reaches files q more)
    ] refl is

found_reaches : (files : List MadeFile) (q : List (List ℕ)) → is_some (made_bytes files q) ≡ true → reaches files q ≡ true
found_reaches [] q is = absurd (false≢true is)
found_reaches (file ∷ files) q is =
    elim (is_at (path_cmp q) file.0) as (λ b. is_at (path_cmp q) file.0 ≡ b → is_some (cond b (Some file.1) (made_bytes files q)) ≡ true → (is_prefix q file.0 || reaches files q) ≡ true) [
      | true ↦ λ same _. ap (λ b. b || reaches files q) (ap (is_prefix q) (sym (same_path q file.0 same)) ∙ prefix_self q)
      | false ↦ λ _ more. or_right (is_prefix q file.0) (reaches files q) (found_reaches files q more)
    ] refl is

some_mapped : {X Y : Type 0} (g : X → Y) (o : Option X) → is_some (option_map g o) ≡ true → is_some o ≡ true
some_mapped g None is = is
some_mapped g (Some x) is = refl

made_reaches : (files : List MadeFile) (q : List (List ℕ)) → is_some (made_entry files q) ≡ true → reaches files q ≡ true
made_reaches files q is =
    elim (has_made files q) as (λ b. has_made files q ≡ b → is_some (cond b (Some (Dir (of_mode 493))) (option_map made_file (made_bytes files q))) ≡ true → reaches files q ≡ true) [
      | true ↦ λ above _. above_reaches files q above
      | false ↦ λ _ found. found_reaches files q (some_mapped made_file (made_bytes files q) found)
    ] refl is

reached_path : (files : List MadeFile) (q : List (List ℕ)) → AllByRecursion IsSmallFile files → reaches files q ≡ true → IsPath q
reached_path [] q small is = absurd (false≢true is)
reached_path (file ∷ files) q small is =
    elim (is_prefix q file.0) as (λ b. is_prefix q file.0 ≡ b → (b || reaches files q) ≡ true → IsPath q) [
      | true ↦ λ prefix _. subst IsPath (sym ((prefix_first q file.0).0 prefix)) (prefix_path (length q) file.0 small.0.path)
      | false ↦ λ _ more. reached_path files q small.1 more
    ] refl is

reached_parent : (files : List MadeFile) (q : List (List ℕ)) → 0 < length q → 0 < length (parent q) → reaches files q ≡ true → has_made files (parent q) ≡ true
reached_parent [] q some upper is = is
reached_parent (file ∷ files) q some upper is =
    elim (is_prefix q file.0) as (λ b. is_prefix q file.0 ≡ b → (b || reaches files q) ≡ true → (is_above (parent q) file.0 || has_made files (parent q)) ≡ true) [
      | true ↦ λ prefix _. ap (λ b. b || has_made files (parent q)) (parent_above q file.0 some upper prefix)
      | false ↦ λ _ more. or_right (is_above (parent q) file.0) (has_made files (parent q)) (reached_parent files q some upper more)
    ] refl is

none_above_root : (files : List MadeFile) → has_made files [] ≡ false
none_above_root [] = refl
none_above_root (file ∷ files) = none_above_root files

none_at_root : (files : List MadeFile) → AllByRecursion IsSmallFile files → made_bytes files [] ≡ None
none_at_root [] small = refl
none_at_root (file ∷ files) small = ap (λ b. cond b (Some file.1) (made_bytes files [])) (not_root file.0 small.0.non_empty) ∙ none_at_root files small.1
  where
    not_root : (p : List (List ℕ)) → 0 < length p → is_at (path_cmp []) p ≡ false
    not_root [] some = absurd (omega arith)
    not_root (n ∷ p) some = refl

none_made_root : (files : List MadeFile) → AllByRecursion IsSmallFile files → made_entry files [] ≡ None
none_made_root files small =
    ap (λ b. cond b (Some (Dir (of_mode 493))) (option_map made_file (made_bytes files []))) (none_above_root files) ∙ ap (option_map made_file) (none_at_root files small)

-- each entry has a line
file_writable : (files : List MadeFile) (q : List (List ℕ)) → AllByRecursion IsSmallFile files → IfSome (option_map made_file (made_bytes files q)) (IsWritable stamp_form)
file_writable [] q small = tt
file_writable (file ∷ files) q small =
    elim (is_at (path_cmp q) file.0) as (λ b. IfSome (option_map made_file (cond b (Some file.1) (made_bytes files q))) (IsWritable stamp_form)) [
      | true ↦ (plain_in_range (of_mode 420) (mode_in_range 420 (omega arith)), record { size = omega (arith, small.0.size); digest = digest_is file.1 })
      | false ↦ file_writable files q small.1
    ]

made_writable : (files : List MadeFile) (q : List (List ℕ)) → AllByRecursion IsSmallFile files → IfSome (made_entry files q) (IsWritable stamp_form)
made_writable files q small =
    elim (has_made files q) as (λ b. IfSome (cond b (Some (Dir (of_mode 493))) (option_map made_file (made_bytes files q))) (IsWritable stamp_form)) [
      | true ↦ mode_in_range 493 (omega arith)
      | false ↦ file_writable files q small
    ]

values_each : (P : Entry Stamp → Type 0) (es : trees.Entries Stamp) → All P (values_of es) → AllByRecursion (λ x. P x.1) es
values_each P [] all = tt
values_each P (e ∷ es) all = (All-head P e.1 (values_of es) all, values_each P es (All-tail P e.1 (values_of es) all))

or_nothing : {X : Type 0} (o : Option X) → option_or o None ≡ o
or_nothing None = refl
or_nothing (Some x) = refl

stands_at : (es : trees.Entries Stamp) (r : List (List ℕ)) → (0 < length r → trees.lookup es r ≡ Some (Dir (of_mode 493))) → trees.is_directory_or_root es r ≡ true
stands_at es [] is = refl
stands_at es (n ∷ r) is = ap trees.is_directory_at (is (omega arith))

module _ (files : List MadeFile) (es : trees.Entries Stamp) (small : AllByRecursion IsSmallFile files) (each : (q : List (List ℕ)) → trees.lookup es q ≡ made_entry files q) where
  not_at_root : (q : List (List ℕ)) → is_some (trees.lookup es q) ≡ true → 0 < length q
  not_at_root [] is = absurd (false≢true (ap is_some (sym (each [] ∙ none_made_root files small)) ∙ is))
  not_at_root (n ∷ q) is = omega arith

  tree_is : IsStrictlySortedBy path_cmp (keys_of es) → trees.IsTree es
  tree_is sorted = record {
    sorted = rising es sorted;
    root = each [] ∙ none_made_root files small;
    paths = λ q is. reached_path files q small (made_reaches files q (ap is_some (sym (each q)) ∙ is));
    parents = λ q is. stands_at es (parent q) (λ upper.
        each (parent q) ∙ ap (λ b. cond b (Some (Dir (of_mode 493))) (option_map made_file (made_bytes files (parent q))))
        (reached_parent files q (not_at_root q is) upper (made_reaches files q (ap is_some (sym (each q)) ∙ is))));
  }

  writable_is : IsStrictlySortedBy path_cmp (keys_of es) → AreWritable es
  writable_is sorted =
      values_each (IsWritable stamp_form) es (All-values_from_lookup (eq_by_cmp_equiv paths_total) (IsWritable stamp_form) es (IsDistinct-from_sorted path_cmp (keys_of es) sorted)
      (λ q. subst (λ o. IfSome o (IsWritable stamp_form)) (sym (each q) ∙ lookup_is q es) (made_writable files q small)))

-- the files and the directories were put, into a map that was empty
pub tree_of : (files : List MadeFile) (start between es : trees.Entries Stamp) → AllByRecursion IsSmallFile files → length files ≤ 40000 → start ≡ [] → PutsFiles start between files → PutsDirectories between es files
    → IsStrictlySortedBy path_cmp (keys_of es) → IsTreeOf files es
tree_of files start between es small few empty puts directories sorted = record {
  text = record {
    within = record { tree = tree_is files es small each sorted; count = omega (arith, puts.count, directories.count, few, ap length empty) };
    each = writable_is files es small each sorted;
  };
  each = each;
}
  where
    each : (q : List (List ℕ)) → trees.lookup es q ≡ made_entry files q
    each q =
        lookup_is q es ∙ directories.each q
        ∙ ap (cond (has_made files q) (Some (Dir (of_mode 493)))) (puts.each q ∙ ap (λ old. option_or (option_map made_file (made_bytes files q)) (entry_at old q)) empty ∙ or_nothing (option_map made_file (made_bytes files q)))
