-- From what was kept to the files: those among it, in order, and each by its name.
use Rattle.std.proofs.Common.{◌≡◌, ℕ, ◌≤◌, true, false, cond, List, [], ◌∷◌, ◌++◌, length, Option, Some, None, is_some, refl, sym, ap, ◌∙◌, subst, arith}
use Rattle.std.specs.Prelude.{nat_lt, Result, Ok, Err, IfOk}
use Rattle.std.specs.BTreeMap.{BTreeMap, IsOrdered, is_at}
use Rattle.std.specs.FinMap.{find, is_sorted}
use Rattle.std.specs.FinMap.Entries.{below_all}
use Rattle.std.specs.List.{AllByRecursion, filter_map}
use Rattle.std.specs.List.Sorted.{IsStrictlySortedBy}
use Rattle.std.specs.Map.{keys_of, lookup as lookup_in}
use Rattle.std.specs.Option.{unwrap_or}
use Rattle.std.specs.Ordering.{is_eq, is_lt}
use Rattle.std.specs.declared.cmp.Ordering.TheVariants.{Less}
use Rattle.std.proofs.lemmas.Bool.{and_from, and_parts, false≢true, ltb-false, ltb-true, true≢false}
use Rattle.std.proofs.lemmas.Option.{slice_get_within}
use Rattle.ext_lines.specs.ByteOrder.{bytes_cmp}
use Rattle.ext_text.proofs.ForCallers.{is_less, same_name}
use Rattle.ext_tree.specs.Tree.{Entries, lookup}
use Rattle.ext_tree.specs.declared.entry.Entry.{Entry}
use Rattle.ext_tree.specs.declared.entry.Entry.TheVariants.{Dir, Opaque, File, Link, Hide}
use Rattle.ext_find.specs.Content.{is_mask_at}
use Rattle.ext_find.specs.HostRelease.{LeadsToContent}
use Rattle.ext_walk.proofs.ForCallers.{same_end}
use Rattle.ext_configs.specs.Configs.{AreConfigs, IsConfig, IsFirstConfig, files_by_name}
use Rattle.ext_configs.specs.Folders.{OpensFolder, config_folders, config_roots}
use Rattle.ext_configs.specs.Kept.{KeepsConfigs, SaysFirst, file_with, in_folders_before, kept_for}
use Rattle.ext_configs.specs.declared.entry.ConfigEntry.{ConfigEntry}
use Rattle.ext_configs.specs.declared.entry.ConfigEntry.TheVariants.{Mask, Content}
use Rattle.ext_configs.specs.declared.kind.ConfigKind.{ConfigKind}
use Rattle.ext_configs.proofs.FolderLemmas.{one_opened}

-- what follows of the value of a result
pub if_ok : {A E : Type 0} (P Q : A → Type 0) (r : Result A E) → ((x : A) → P x → Q x) → IfOk r P → IfOk r Q
if_ok P Q (Ok x) then_ is = then_ x is
if_ok P Q (Err e) then_ is = tt

below_from : {X : Type 0} (k : List ℕ) (es : List (List ℕ × X)) → AllByRecursion (λ y. bytes_cmp k y ≡ Less) (keys_of es) → below_all bytes_cmp k es ≡ true
below_from k [] all = refl
below_from k (e ∷ es) all = and_from _ _ (ap is_lt all.0) (below_from k es all.1)

-- keys that strictly ascend are in the order of a map
pub rising : {X : Type 0} (es : List (List ℕ × X)) → IsStrictlySortedBy bytes_cmp (keys_of es) → is_sorted bytes_cmp es ≡ true
unfolding IsStrictlySortedBy
rising [] sorted = refl
rising (e ∷ es) sorted = and_from _ _ (below_from e.0 es sorted.0) (rising es sorted.1)

-- a key below all is not found
not_below : {X : Type 0} (k : List ℕ) (es : List (List ℕ × X)) → below_all bytes_cmp k es ≡ true → find bytes_cmp k es ≡ None
not_below k [] below = refl
not_below k (e ∷ es) below =
    let parts = and_parts (is_lt (bytes_cmp k e.0)) (below_all bytes_cmp k es) below in
    ap (λ r. cond (is_eq r) (Some e.1) (find bytes_cmp k es)) (is_less _ parts.0) ∙ not_below k es parts.1

-- the contents of the files among what was kept, by their names
abbrev pub contents : {C : Type 0} → List (List ℕ × ConfigEntry C) → List (List ℕ × C)
contents es = files_by_name (filter_map (λ e. file_with e.0 e.1) es)

-- the content of what is kept
abbrev content_of : {C : Type 0} → Option (ConfigEntry C) → Option C
content_of None = None
content_of (Some Mask) = None
content_of (Some (Content content)) = Some content.now

below_contents : {C : Type 0} (k : List ℕ) (es : List (List ℕ × ConfigEntry C)) → below_all bytes_cmp k es ≡ true → below_all bytes_cmp k (contents es) ≡ true
below_contents k [] below = refl
below_contents k ((name, Mask) ∷ es) below = below_contents k es (and_parts (is_lt (bytes_cmp k name)) (below_all bytes_cmp k es) below).1
below_contents k ((name, Content content) ∷ es) below =
    let parts = and_parts (is_lt (bytes_cmp k name)) (below_all bytes_cmp k es) below in
    and_from _ _ parts.0 (below_contents k es parts.1)

sorted_contents : {C : Type 0} (es : List (List ℕ × ConfigEntry C)) → is_sorted bytes_cmp es ≡ true → is_sorted bytes_cmp (contents es) ≡ true
sorted_contents [] sorted = refl
sorted_contents ((name, Mask) ∷ es) sorted = sorted_contents es (and_parts (below_all bytes_cmp name es) (is_sorted bytes_cmp es) sorted).1
sorted_contents ((name, Content content) ∷ es) sorted =
    let parts = and_parts (below_all bytes_cmp name es) (is_sorted bytes_cmp es) sorted in
    and_from _ _ (below_contents name es parts.0) (sorted_contents es parts.1)

find_contents : {C : Type 0} (q : List ℕ) (es : List (List ℕ × ConfigEntry C)) → is_sorted bytes_cmp es ≡ true → find bytes_cmp q (contents es) ≡ content_of (lookup_in (is_at (bytes_cmp q)) es)
find_contents q [] sorted = refl
find_contents q ((name, Mask) ∷ es) sorted =
    let parts = and_parts (below_all bytes_cmp name es) (is_sorted bytes_cmp es) sorted in
    elim (is_at (bytes_cmp q) name) as (λ b. is_at (bytes_cmp q) name ≡ b → find bytes_cmp q (contents es) ≡ content_of (cond b (Some Mask) (lookup_in (is_at (bytes_cmp q)) es))) [
      | true ↦ λ same. not_below q (contents es) (below_contents q es (subst (λ n. below_all bytes_cmp n es ≡ true) (sym (same_name q name same)) parts.0))
      | false ↦ λ other. find_contents q es parts.1
    ] refl
find_contents q ((name, Content content) ∷ es) sorted =
    let parts = and_parts (below_all bytes_cmp name es) (is_sorted bytes_cmp es) sorted in
    elim (is_at (bytes_cmp q) name) as (λ b. cond b (Some content.now) (find bytes_cmp q (contents es)) ≡ content_of (cond b (Some (Content content)) (lookup_in (is_at (bytes_cmp q)) es))) [
      | true ↦ refl
      | false ↦ find_contents q es parts.1
    ]

-- the content of a file
abbrev held_in : {C : Type 0} → C → Option (Entry C) → C
held_in other None = other
held_in other (Some (Dir attributes)) = other
held_in other (Some (Opaque attributes)) = other
held_in other (Some (File attributes content)) = content
held_in other (Some (Link owner target)) = other
held_in other (Some Hide) = other

-- names lead to one content
pub one_content : {C : Type 0} (es : Entries C) (path : List (List ℕ)) (a b : C) → LeadsToContent es path a → LeadsToContent es path b → a ≡ b
one_content es path a b first other =
    ap (held_in a) (sym first.3 ∙ ap (lookup es) (same_end es path first.0 other.0 first.2 other.2) ∙ other.3)

module _ {C : Type 0} (size : C → ℕ) (es : Entries C) (component : Option (List ℕ)) (kind : ConfigKind) where
  -- there is one first folder of a name
  one_first : (i j : ℕ) (name : List ℕ) → IsFirstConfig size es component kind i name → IsFirstConfig size es component kind j name → i ≡ j
  one_first i j name first other =
      elim (nat_lt i j) as (λ t. nat_lt i j ≡ t → i ≡ j) [
        | true ↦ λ less. absurd (other.first i (ltb-true i j less) first.config)
        | false ↦ λ above. elim (nat_lt j i) as (λ t. nat_lt j i ≡ t → i ≡ j) [
          | true ↦ λ less. absurd (first.first j (ltb-true j i less) other.config)
          | false ↦ λ below. let low : i ≤ j = ltb-false j i below in let high : j ≤ i = ltb-false i j above in omega arith
        ] refl
      ] refl

  -- and so one directory
  one_directory : (i j : ℕ) (name : List ℕ) (first : IsFirstConfig size es component kind i name) (other : IsFirstConfig size es component kind j name) → first.config.directory ≡ other.config.directory
  one_directory i j name first other =
      one_opened es (config_folders component) j first.config.directory other.config.directory
      (subst (λ k. OpensFolder es component k first.config.directory) (one_first i j name first other) first.config.opens) other.config.opens

  -- what is kept for a configuration file is its content
  kept_content : (name : List ℕ) (content : C) → IsConfig size es component kind name content → (entry : ConfigEntry C) → SaysFirst size es component kind name entry → content_of (Some entry) ≡ Some content
  kept_content name content config Mask says =
      let same = one_directory config.index says.index name config.first says.first in
      absurd (true≢false (sym says.says ∙ ap (λ d. is_mask_at size (lookup es (d ++ name ∷ []))) (sym same) ∙ config.unmasked))
  kept_content name content config (Content held) says =
      let same = one_directory config.index says.index name config.first says.first in
      ap Some (one_content es (says.first.config.directory ++ name ∷ []) held.now content says.says.1
      (subst (λ d. LeadsToContent es (d ++ name ∷ []) content) same config.leads))

  -- a configuration file has one content
  pub config_content : (name : List ℕ) (a b : C) → IsConfig size es component kind name a → IsConfig size es component kind name b → a ≡ b
  config_content name a b first other =
      let same = one_directory first.index other.index name first.first other.first in
      one_content es (other.first.config.directory ++ name ∷ []) a b (subst (λ d. LeadsToContent es (d ++ name ∷ []) a) same first.leads) other.leads

  module _ (kept : BTreeMap (List ℕ) (ConfigEntry C)) (keeps : KeepsConfigs size es component kind (in_folders_before (length config_roots)) kept) (ordered : IsOrdered bytes_cmp kept) where
    found : (name : List ℕ) → find bytes_cmp name (contents kept.entries) ≡ content_of (kept_for kept name)
    found name = find_contents name kept.entries (rising kept.entries ordered)

    each_of : (name : List ℕ) (content : C) (o : Option (ConfigEntry C)) → kept_for kept name ≡ o → content_of o ≡ Some content → IsConfig size es component kind name content
    each_of name content None at is = absurd (false≢true (ap is_some is))
    each_of name content (Some Mask) at is = absurd (false≢true (ap is_some is))
    each_of name content (Some (Content held)) at is =
        let says = keeps.kept name (Content held) at in
        record {
          index = says.index;
          first = says.first;
          unmasked = says.says.0;
          leads = subst (LeadsToContent es (says.first.config.directory ++ name ∷ [])) (ap (λ o. unwrap_or o content) is) says.says.1;
        }

    whole_of : (name : List ℕ) (content : C) → IsConfig size es component kind name content → (o : Option (ConfigEntry C)) → kept_for kept name ≡ o → is_some o ≡ true → content_of o ≡ Some content
    whole_of name content config None at some = absurd (false≢true some)
    whole_of name content config (Some entry) at some = kept_content name content config entry (keeps.kept name entry at)

    -- the files among what was kept after the last folder
    pub files_kept : AreConfigs size es component kind (filter_map (λ e. file_with e.0 e.1) kept.entries)
    files_kept = record {
      sorted = sorted_contents kept.entries (rising kept.entries ordered);
      each = λ name content at. each_of name content (kept_for kept name) refl (sym (found name) ∙ at);
      whole = λ name content config.
          found name
          ∙ whole_of name content config (kept_for kept name) refl
          (keeps.all config.index name (slice_get_within (config_folders component) config.index config.first.config.opens.path config.first.config.opens.searched) config.first.config);
    }
