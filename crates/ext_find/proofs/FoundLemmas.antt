-- From what was kept to what is found: the items in order, and each by its stem.
use Rattle.std.proofs.Common.{◌≡◌, ℕ, true, false, cond, ◌&&◌, List, [], ◌∷◌, length, Option, Some, None, is_some, refl, sym, ap, ◌∙◌, subst}
use Rattle.std.specs.Prelude.{map}
use Rattle.std.specs.BTreeMap.{BTreeMap, IsOrdered, is_at}
use Rattle.std.specs.FinMap.{find, is_sorted}
use Rattle.std.specs.FinMap.Entries.{below_all}
use Rattle.std.specs.List.{AllByRecursion}
use Rattle.std.specs.List.Sorted.{IsStrictlySortedBy}
use Rattle.std.specs.Map.{lookup as lookup_in, keys_of}
use Rattle.std.specs.Option.{option_map, unwrap_or}
use Rattle.std.specs.Ordering.{is_lt}
use Rattle.std.specs.declared.cmp.Ordering.TheVariants.{Less}
use Rattle.std.proofs.lemmas.Bool.{and_from, false≢true}
use Rattle.std.proofs.lemmas.Option.{slice_get_within}
use Rattle.ext_text.specs.declared.arch.Arch.{Arch}
use Rattle.ext_text.specs.declared.class.Class.{Class}
use Rattle.ext_tree.specs.Tree.{Entries}
use Rattle.ext_vers.specs.Version.{order_of}
use Rattle.ext_find.specs.Directories.{search_directories}
use Rattle.ext_find.specs.Found.{IsFirst, AreFound}
use Rattle.ext_find.specs.Keeps.{Keeps, before, kept_at}
use Rattle.ext_find.specs.Usable.{item_with}
use Rattle.ext_find.specs.declared.found.FoundItem.{FoundItem}
use Rattle.ext_find.specs.declared.found_image.FoundImage.{FoundImage}
use Rattle.ext_find.proofs.KeepsLemmas.{names_equal}

below_from : {X : Type 0} (k : List ℕ) (es : List (List ℕ × X)) → AllByRecursion (λ y. order_of k y ≡ Less) (keys_of es) → below_all order_of k es ≡ true
below_from k [] all = refl
below_from k (e ∷ es) all = and_from _ _ (ap is_lt all.0) (below_from k es all.1)

rising : {X : Type 0} (es : List (List ℕ × X)) → IsStrictlySortedBy order_of (keys_of es) → is_sorted order_of es ≡ true
unfolding IsStrictlySortedBy
rising [] sorted = refl
rising (e ∷ es) sorted = and_from _ _ (below_from e.0 es sorted.0) (rising es sorted.1)

abbrev by_items : List (List ℕ × FoundImage) → List (List ℕ × FoundItem)
by_items es = map (λ item. (item.name, item)) (map (λ e. item_with e.0 e.1) es)

is_some_map : (q : List ℕ) (o : Option FoundImage) → is_some o ≡ true → is_some (option_map (item_with q) o) ≡ true
is_some_map q None some = some
is_some_map q (Some found_image) some = refl

below_named : (k : List ℕ) (es : List (List ℕ × FoundImage)) → below_all order_of k (by_items es) ≡ below_all order_of k es
below_named k [] = refl
below_named k (e ∷ es) = ap (λ b. is_lt (order_of k e.0) && b) (below_named k es)

sorted_named : (es : List (List ℕ × FoundImage)) → is_sorted order_of (by_items es) ≡ is_sorted order_of es
sorted_named [] = refl
sorted_named (e ∷ es) = λ i. below_named e.0 es i && sorted_named es i

find_named : (q : List ℕ) (es : List (List ℕ × FoundImage)) → find order_of q (by_items es) ≡ option_map (item_with q) (lookup_in (is_at (order_of q)) es)
find_named q [] = refl
find_named q (e ∷ es) =
    elim (is_at (order_of q) e.0) as (λ b. is_at (order_of q) e.0 ≡ b → cond b (Some (item_with e.0 e.1)) (find order_of q (by_items es)) ≡ option_map (item_with q) (cond b (Some e.1) (lookup_in (is_at (order_of q)) es))) [
      | true ↦ λ same. ap (λ n. Some (item_with n e.1)) (sym (names_equal q e.0 same))
      | false ↦ λ other. find_named q es
    ] refl

module _ {C : Type 0} (size : C → ℕ) (es : Entries C) (class : Class) (arch : Arch) (hierarchies : List (List ℕ)) where
  pub found_of : (kept : BTreeMap (List ℕ) FoundImage) → Keeps size es class arch hierarchies (before (length (search_directories class))) kept → IsOrdered order_of kept → AreFound size es class arch hierarchies (map (λ e. item_with e.0 e.1) kept.entries)
  found_of kept keeps ordered = record {
    ordered = sorted_named kept.entries ∙ rising kept.entries ordered;
    least = λ stem item at. from_found_image stem item (kept_at kept stem) refl (sym (find_named stem kept.entries) ∙ at);
    each = λ index name item usable. ap is_some (find_named item.name kept.entries) ∙ is_some_map item.name (kept_at kept item.name) (keeps.all index name item (slice_get_within (search_directories class) index usable.opens.text usable.opens.searched) usable);
  }
    where
      from_found_image : (stem : List ℕ) (item : FoundItem) (o : Option FoundImage) → kept_at kept stem ≡ o → option_map (item_with stem) o ≡ Some item → (index : ℕ) × (name : List ℕ) × IsFirst size es class arch hierarchies index name item
      from_found_image stem item None at is = absurd (false≢true (ap is_some is))
      from_found_image stem item (Some found_image) at is =
          let first = keeps.kept stem found_image at in
          (first.0, first.1, subst (IsFirst size es class arch hierarchies first.0 first.1) (ap (λ o. unwrap_or o item) is) first.2)
