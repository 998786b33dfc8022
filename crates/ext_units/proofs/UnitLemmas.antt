-- From what was kept to the units: those among it, in order, and each by its name.
use Rattle.std.proofs.Common.{◌≡◌, ℕ, ◌≤◌, true, false, cond, List, [], ◌∷◌, ◌++◌, length, Option, Some, None, is_some, refl, sym, ap, ◌∙◌, subst, arith}
use Rattle.std.specs.Prelude.{nat_lt, Result, Ok, Err, IfOk}
use Rattle.std.specs.BTreeMap.{BTreeMap, IsOrdered, is_at}
use Rattle.std.specs.FinMap.{find, is_sorted}
use Rattle.std.specs.FinMap.Entries.{below_all}
use Rattle.std.specs.List.{AllByRecursion, filter_map}
use Rattle.std.specs.List.Sorted.{IsStrictlySortedBy}
use Rattle.std.specs.Map.{keys_of, lookup as lookup_in}
use Rattle.std.specs.Option.{unwrap_or}
use Rattle.std.specs.Ordering.{is_eq, is_lt}
use Rattle.std.specs.declared.cmp.Ordering.TheVariants.{Less}
use Rattle.std.proofs.lemmas.Bool.{and_from, and_parts, false≢true, ltb-false, ltb-true}
use Rattle.std.proofs.lemmas.Option.{slice_get_within}
use Rattle.ext_lines.specs.ByteOrder.{bytes_cmp}
use Rattle.ext_text.proofs.ForCallers.{is_less, same_name}
use Rattle.ext_tree.specs.Tree.{Entries}
use Rattle.ext_walk.specs.Walk.{Ends}
use Rattle.ext_walk.proofs.ForCallers.{same_end}
use Rattle.ext_units.specs.Kept.{KeepsUnits, SaysFirst, earlier_entries, kept_for, unit_with}
use Rattle.ext_units.specs.TextSet.{is_one_of}
use Rattle.ext_units.specs.Units.{AreUnits, IsFirstEntry, IsUnit, IsUnitName, OpensUnits, units_by_name, unit_directories}
use Rattle.ext_units.specs.declared.unit_entry.UnitEntry.{UnitEntry}
use Rattle.ext_units.specs.declared.unit_entry.UnitEntry.TheVariants.{NoFile, Leads}
use Rattle.ext_units.specs.declared.unit_file.UnitFile.{UnitFile}
use Rattle.ext_units.proofs.DirectoryLemmas.{one_opened}

-- what follows of the value of a result
pub if_ok : {A E : Type 0} (P Q : A → Type 0) (r : Result A E) → ((x : A) → P x → Q x) → IfOk r P → IfOk r Q
if_ok P Q (Ok x) then_ is = then_ x is
if_ok P Q (Err e) then_ is = tt

below_from : {X : Type 0} (k : List ℕ) (es : List (List ℕ × X)) → AllByRecursion (λ y. bytes_cmp k y ≡ Less) (keys_of es) → below_all bytes_cmp k es ≡ true
below_from k [] all = refl
below_from k (e ∷ es) all = and_from _ _ (ap is_lt all.0) (below_from k es all.1)

-- keys that strictly ascend are in the order of a map
rising : {X : Type 0} (es : List (List ℕ × X)) → IsStrictlySortedBy bytes_cmp (keys_of es) → is_sorted bytes_cmp es ≡ true
unfolding IsStrictlySortedBy
rising [] sorted = refl
rising (e ∷ es) sorted = and_from _ _ (below_from e.0 es sorted.0) (rising es sorted.1)

-- a key below all is not found
not_below : {X : Type 0} (k : List ℕ) (es : List (List ℕ × X)) → below_all bytes_cmp k es ≡ true → find bytes_cmp k es ≡ None
not_below k [] below = refl
not_below k (e ∷ es) below =
    let parts = and_parts (is_lt (bytes_cmp k e.0)) (below_all bytes_cmp k es) below in
    ap (λ r. cond (is_eq r) (Some e.1) (find bytes_cmp k es)) (is_less _ parts.0) ∙ not_below k es parts.1

-- the files of the units among what was kept, by their names
abbrev files : List (List ℕ × UnitEntry) → List (List ℕ × List (List ℕ))
files es = units_by_name (filter_map (λ e. unit_with e.0 e.1) es)

-- the file to which an entry leads
abbrev file_of : Option UnitEntry → Option (List (List ℕ))
file_of None = None
file_of (Some NoFile) = None
file_of (Some (Leads file)) = Some file

below_files : (k : List ℕ) (es : List (List ℕ × UnitEntry)) → below_all bytes_cmp k es ≡ true → below_all bytes_cmp k (files es) ≡ true
below_files k [] below = refl
below_files k ((name, NoFile) ∷ es) below = below_files k es (and_parts (is_lt (bytes_cmp k name)) (below_all bytes_cmp k es) below).1
below_files k ((name, Leads file) ∷ es) below =
    let parts = and_parts (is_lt (bytes_cmp k name)) (below_all bytes_cmp k es) below in
    and_from _ _ parts.0 (below_files k es parts.1)

sorted_files : (es : List (List ℕ × UnitEntry)) → is_sorted bytes_cmp es ≡ true → is_sorted bytes_cmp (files es) ≡ true
sorted_files [] sorted = refl
sorted_files ((name, NoFile) ∷ es) sorted = sorted_files es (and_parts (below_all bytes_cmp name es) (is_sorted bytes_cmp es) sorted).1
sorted_files ((name, Leads file) ∷ es) sorted =
    let parts = and_parts (below_all bytes_cmp name es) (is_sorted bytes_cmp es) sorted in
    and_from _ _ (below_files name es parts.0) (sorted_files es parts.1)

find_files : (q : List ℕ) (es : List (List ℕ × UnitEntry)) → is_sorted bytes_cmp es ≡ true → find bytes_cmp q (files es) ≡ file_of (lookup_in (is_at (bytes_cmp q)) es)
find_files q [] sorted = refl
find_files q ((name, NoFile) ∷ es) sorted =
    let parts = and_parts (below_all bytes_cmp name es) (is_sorted bytes_cmp es) sorted in
    elim (is_at (bytes_cmp q) name) as (λ b. is_at (bytes_cmp q) name ≡ b → find bytes_cmp q (files es) ≡ file_of (cond b (Some NoFile) (lookup_in (is_at (bytes_cmp q)) es))) [
      | true ↦ λ same. not_below q (files es) (below_files q es (subst (λ n. below_all bytes_cmp n es ≡ true) (sym (same_name q name same)) parts.0))
      | false ↦ λ other. find_files q es parts.1
    ] refl
find_files q ((name, Leads file) ∷ es) sorted =
    let parts = and_parts (below_all bytes_cmp name es) (is_sorted bytes_cmp es) sorted in
    elim (is_at (bytes_cmp q) name) as (λ b. cond b (Some file) (find bytes_cmp q (files es)) ≡ file_of (cond b (Some (Leads file)) (lookup_in (is_at (bytes_cmp q)) es))) [
      | true ↦ refl
      | false ↦ find_files q es parts.1
    ]

module _ {C : Type 0} (es : Entries C) where
  -- there is one first directory with an entry of a name
  one_first : (i j : ℕ) (name : List ℕ) → IsFirstEntry es i name → IsFirstEntry es j name → i ≡ j
  one_first i j name first other =
      elim (nat_lt i j) as (λ t. nat_lt i j ≡ t → i ≡ j) [
        | true ↦ λ less. absurd (other.first i (ltb-true i j less) first.entry)
        | false ↦ λ above. elim (nat_lt j i) as (λ t. nat_lt j i ≡ t → i ≡ j) [
          | true ↦ λ less. absurd (first.first j (ltb-true j i less) other.entry)
          | false ↦ λ below. let low : i ≤ j = ltb-false j i below in let high : j ≤ i = ltb-false i j above in omega arith
        ] refl
      ] refl

  pub one_directory : (i j : ℕ) (name : List ℕ) (first : IsFirstEntry es i name) (other : IsFirstEntry es j name) → first.entry.directory ≡ other.entry.directory
  one_directory i j name first other =
      one_opened es j first.entry.directory other.entry.directory
      (subst (λ k. OpensUnits es k first.entry.directory) (one_first i j name first other) first.entry.opens) other.entry.opens

  module _ (prefixes : List (List ℕ)) where
    -- what is kept for a unit is its file
    kept_file : (name : List ℕ) (file : List (List ℕ)) → IsUnit es prefixes name file → (entry : UnitEntry) → SaysFirst es prefixes name entry → file_of (Some entry) ≡ Some file
    kept_file name file unit NoFile says =
        let same = one_directory unit.index says.index name unit.first says.first in
        absurd (says.says (file, subst (λ d. Ends es (d ++ name ∷ []) file) same unit.leads, unit.is_file))
    kept_file name file unit (Leads held) says =
        let same = one_directory unit.index says.index name unit.first says.first in
        ap Some (same_end es (says.first.entry.directory ++ name ∷ []) held file says.says.0 (subst (λ d. Ends es (d ++ name ∷ []) file) same unit.leads))

    module _ (kept : BTreeMap (List ℕ) UnitEntry) (keeps : KeepsUnits es prefixes (earlier_entries (length unit_directories)) kept) (ordered : IsOrdered bytes_cmp kept) where
      found : (name : List ℕ) → find bytes_cmp name (files kept.entries) ≡ file_of (kept_for kept name)
      found name = find_files name kept.entries (rising kept.entries ordered)

      each_of : (name : List ℕ) (file : List (List ℕ)) (o : Option UnitEntry) → kept_for kept name ≡ o → file_of o ≡ Some file → IsUnit es prefixes name file
      each_of name file None at is = absurd (false≢true (ap is_some is))
      each_of name file (Some NoFile) at is = absurd (false≢true (ap is_some is))
      each_of name file (Some (Leads held)) at is =
          let says = keeps.kept name (Leads held) at in
          let same : held ≡ file = ap (λ o. unwrap_or o file) is in
          subst (IsUnit es prefixes name) same (record { is_name = says.is_name; index = says.index; first = says.first; leads = says.says.0; is_file = says.says.1 })

      whole_of : (name : List ℕ) (file : List (List ℕ)) → IsUnit es prefixes name file → (o : Option UnitEntry) → kept_for kept name ≡ o → is_some o ≡ true → file_of o ≡ Some file
      whole_of name file unit None at some = absurd (false≢true some)
      whole_of name file unit (Some entry) at some = kept_file name file unit entry (keeps.kept name entry at)

      -- the units among what was kept after the last directory
      pub units_kept : AreUnits es prefixes (filter_map (λ e. unit_with e.0 e.1) kept.entries)
      units_kept = record {
        sorted = sorted_files kept.entries (rising kept.entries ordered);
        each = λ name file at. each_of name file (kept_for kept name) refl (sym (found name) ∙ at);
        whole = λ name file unit.
            found name
            ∙ whole_of name file unit (kept_for kept name) refl
            (keeps.all unit.index name (slice_get_within unit_directories unit.index unit.first.entry.opens.path unit.first.entry.opens.searched) unit.is_name unit.first.entry);
      }

-- units of some prefixes are those of others that are the same texts
module _ (some others : List (List ℕ)) (same : (text : List ℕ) → is_one_of some text ≡ is_one_of others text) where
  named_by : (name : List ℕ) → IsUnitName some name → IsUnitName others name
  named_by name is = record {
    suffix = is.suffix;
    has_prefix = record {
      prefix = is.has_prefix.prefix;
      among = sym (same is.has_prefix.prefix) ∙ is.has_prefix.among;
      separator = is.has_prefix.separator;
      separates = is.has_prefix.separates;
      rest = is.has_prefix.rest;
      whole = is.has_prefix.whole;
    };
  }

  pub unit_by : {C : Type 0} (es : Entries C) (name : List ℕ) (file : List (List ℕ)) → IsUnit es some name file → IsUnit es others name file
  unit_by es name file unit = record { is_name = named_by name unit.is_name; index = unit.index; first = unit.first; leads = unit.leads; is_file = unit.is_file }

pub units_by : {C : Type 0} (es : Entries C) (some others : List (List ℕ)) → ((text : List ℕ) → is_one_of some text ≡ is_one_of others text) → (units : List UnitFile) → AreUnits es some units → AreUnits es others units
units_by es some others same units are = record {
  sorted = are.sorted;
  each = λ name file at. unit_by some others same es name file (are.each name file at);
  whole = λ name file unit. are.whole name file (unit_by others some (λ text. sym (same text)) es name file unit);
}
