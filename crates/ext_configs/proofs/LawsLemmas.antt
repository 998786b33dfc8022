-- There is one list of configuration files, and one of components.
use Rattle.std.proofs.Common.{◌≡◌, ℕ, true, T, List, [], ◌∷◌, Option, Some, None, is_some, refl, sym, ap, ◌∙◌, subst}
use Rattle.std.specs.Prelude.{map}
use Rattle.std.specs.Cmp.{eq_by_cmp_equiv}
use Rattle.std.specs.FinMap.{find, is_sorted}
use Rattle.std.specs.FinMap.Entries.{is_some-find, same_entries}
use Rattle.std.specs.List.{Contains, list_any}
use Rattle.std.specs.List.Sorted.{IsStrictlySortedBy}
use Rattle.std.specs.Ordering.{eq_by_cmp}
use Rattle.std.proofs.lemmas.Bool.{false≢true}
use Rattle.std.proofs.lemmas.Float.{T_from_true}
use Rattle.std.proofs.lemmas.Map.Views.{Contains-from_any, list_any-from_Contains}
use Rattle.ext_lines.specs.ByteOrder.{bytes_cmp, bytes_exact, bytes_total}
use Rattle.ext_text.proofs.ForCallers.{same_name}
use Rattle.ext_tree.specs.Tree.{Entries}
use Rattle.ext_configs.specs.Components.{AreComponents}
use Rattle.ext_configs.specs.Configs.{files_by_name}
use Rattle.ext_configs.specs.Laws.{ConfigsAreFiles, OneComponentList, OneConfigList}
use Rattle.ext_configs.proofs.FileLemmas.{rising}

pub one_config_law : {C : Type 0} (size : C → ℕ) → OneConfigList size
one_config_law {C = C} size es component kind files other first second =
    same_entries bytes_cmp bytes_total bytes_exact (files_by_name files) (files_by_name other) (T_from_true _ first.sorted) (T_from_true _ second.sorted) agree
  where
    by_case : (q : List ℕ) (o p : Option C) → find bytes_cmp q (files_by_name files) ≡ o → find bytes_cmp q (files_by_name other) ≡ p → o ≡ p
    by_case q (Some a) p at there = sym (second.whole q a (first.each q a at)) ∙ there
    by_case q None (Some b) at there = sym at ∙ first.whole q b (second.each q b there)
    by_case q None None at there = refl

    agree : (q : List ℕ) → find bytes_cmp q (files_by_name files) ≡ find bytes_cmp q (files_by_name other)
    agree q = by_case q (find bytes_cmp q (files_by_name files)) (find bytes_cmp q (files_by_name other)) refl refl

pub config_file_law : {C : Type 0} (size : C → ℕ) → ConfigsAreFiles size
config_file_law size es component kind files are name content at =
    let config = are.each name content at in
    (config.leads.0, config.leads.1, config.leads.3)

-- names as the keys of a map to nothing
abbrev as_keys : List (List ℕ) → List (List ℕ × Unit {0})
as_keys names = map (λ name. (name, tt)) names

keys_as : (names : List (List ℕ)) → map (λ e. e.0) (as_keys names) ≡ names
keys_as [] = refl
keys_as (n ∷ names) = ap (λ l. n ∷ l) (keys_as names)

among : (q : List ℕ) (names : List (List ℕ)) → is_some (find bytes_cmp q (as_keys names)) ≡ list_any (eq_by_cmp bytes_cmp q) names
among q names = is_some-find bytes_cmp q (as_keys names) ∙ ap (list_any (eq_by_cmp bytes_cmp q)) (keys_as names)

sorted_keys : (names : List (List ℕ)) → IsStrictlySortedBy bytes_cmp names → T (is_sorted bytes_cmp (as_keys names))
sorted_keys names sorted = T_from_true _ (rising (as_keys names) (subst (IsStrictlySortedBy bytes_cmp) (sym (keys_as names)) sorted))

found_key : (names : List (List ℕ)) (q : List ℕ) → Contains names q → is_some (find bytes_cmp q (as_keys names)) ≡ true
found_key names q has = among q names ∙ list_any-from_Contains (eq_by_cmp_equiv bytes_total) q names has

key_found : (names : List (List ℕ)) (q : List ℕ) → is_some (find bytes_cmp q (as_keys names)) ≡ true → Contains names q
key_found names q found = Contains-from_any same_name q names (sym (among q names) ∙ found)

module _ {C : Type 0} (es : Entries C) (names other : List (List ℕ)) (first : AreComponents es names) (second : AreComponents es other) where
  found_there : (q : List ℕ) → is_some (find bytes_cmp q (as_keys names)) ≡ true → is_some (find bytes_cmp q (as_keys other)) ≡ true
  found_there q found = found_key other q ((second.whole q).1 ((first.whole q).0 (key_found names q found)))

module _ {C : Type 0} (es : Entries C) (names other : List (List ℕ)) (first : AreComponents es names) (second : AreComponents es other) where
  one_components : names ≡ other
  one_components =
      sym (keys_as names)
      ∙ ap (map (λ (e : List ℕ × Unit {0}). e.0)) (same_entries bytes_cmp bytes_total bytes_exact (as_keys names) (as_keys other) (sorted_keys names first.sorted) (sorted_keys other second.sorted) agree)
      ∙ keys_as other
    where
      by_case : (q : List ℕ) (o p : Option (Unit {0})) → find bytes_cmp q (as_keys names) ≡ o → find bytes_cmp q (as_keys other) ≡ p → o ≡ p
      by_case q None None at there = refl
      by_case q (Some a) (Some b) at there = refl
      by_case q (Some a) None at there = absurd (false≢true (sym (ap is_some there) ∙ found_there es names other first second q (ap is_some at)))
      by_case q None (Some b) at there = absurd (false≢true (sym (ap is_some at) ∙ found_there es other names second first q (ap is_some there)))

      agree : (q : List ℕ) → find bytes_cmp q (as_keys names) ≡ find bytes_cmp q (as_keys other)
      agree q = by_case q (find bytes_cmp q (as_keys names)) (find bytes_cmp q (as_keys other)) refl refl

pub one_component_law : (C : Type 0) → OneComponentList C
one_component_law C es names other first second = one_components es names other first second
