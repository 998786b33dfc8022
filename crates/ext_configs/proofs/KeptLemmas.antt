-- What the search for configuration files keeps, visit by visit.
use Rattle.std.proofs.Common.{◌≡◌, ◌⊎◌, ℕ, ◌+◌, ◌<◌, ◌≤◌, Bool, true, false, cond, List, [], ◌∷◌, ◌++◌, Option, Some, None, is_some, inl, inr, refl, sym, ap, ◌∙◌, subst, arith}
use Rattle.std.specs.Prelude.{nat_lt}
use Rattle.std.specs.BTreeMap.{BTreeMap, is_at}
use Rattle.std.specs.Option.{unwrap_or}
use Rattle.std.specs.Ordering.{is_eq}
use Rattle.std.specs.FinMap.Entries.{where_key}
use Rattle.std.specs.Map.{lookup as lookup_in}
use Rattle.std.proofs.lemmas.Bool.{false≢true, ltb-false, ltb-true}
use Rattle.ext_lines.specs.ByteOrder.{bytes_cmp}
use Rattle.ext_text.specs.Path.{path_cmp, is_proper_prefix}
use Rattle.ext_text.proofs.ForCallers.{names_tied, same_name}
use Rattle.ext_tree.specs.Tree.{Entries, lookup}
use Rattle.ext_tree.proofs.ForCallers.{below_append, lookup_where}
use Rattle.ext_walk.specs.Row.{Passes}
use Rattle.ext_configs.specs.Configs.{CountsIn, IsConfigEntry}
use Rattle.ext_configs.specs.Folders.{OpensFolder, config_folders}
use Rattle.ext_configs.specs.Kept.{EntryAt, KeepsConfigs, KeepsEntry, SaysFirst, in_folders_before, in_names_passed, kept_for}
use Rattle.ext_configs.specs.declared.entry.ConfigEntry.{ConfigEntry}
use Rattle.ext_configs.specs.declared.kind.ConfigKind.{ConfigKind}
use Rattle.ext_configs.proofs.FolderLemmas.{one_opened}

equal_name : (a : List ℕ) → is_at (bytes_cmp a) a ≡ true
equal_name a = ap is_eq (names_tied a)

module _ {C : Type 0} (old new : BTreeMap (List ℕ) (ConfigEntry C)) (name : List ℕ) where
  -- what is kept stays
  more_kept : (entry : Option (ConfigEntry C)) → KeepsEntry old new name entry → (q : List ℕ) → is_some (kept_for old q) ≡ true → is_some (kept_for new q) ≡ true
  more_kept None keeps q there = ap is_some (keeps q) ∙ there
  more_kept (Some entry) keeps q there =
      ap is_some (keeps q)
      ∙ elim (is_some (kept_for old name)) as (λ b. is_some (cond b (kept_for old q) (cond (is_at (bytes_cmp name) q) (Some entry) (kept_for old q))) ≡ true) [
        | true ↦ there
        | false ↦ elim (is_at (bytes_cmp name) q) as (λ b. is_some (cond b (Some entry) (kept_for old q)) ≡ true) [ true ↦ refl | false ↦ there ]
      ]

  -- the entry's own name has one
  own_kept : (entry : ConfigEntry C) → KeepsEntry old new name (Some entry) → is_some (kept_for new name) ≡ true
  own_kept entry keeps =
      ap is_some (keeps name)
      ∙ elim (is_some (kept_for old name)) as (λ b. is_some (kept_for old name) ≡ b → is_some (cond b (kept_for old name) (cond (is_at (bytes_cmp name) name) (Some entry) (kept_for old name))) ≡ true) [
        | true ↦ λ there. there
        | false ↦ λ _. ap (λ b. is_some (cond b (Some entry) (kept_for old name))) (equal_name name)
      ] refl

less_or_same : (j i : ℕ) → j < i + 1 → (j < i) ⊎ (j ≡ i)
less_or_same j i within =
    elim (nat_lt j i) as (λ b. nat_lt j i ≡ b → (j < i) ⊎ (j ≡ i)) [
      | true ↦ λ less. inl (ltb-true j i less)
      | false ↦ λ other. let above : i ≤ j = ltb-false j i other in inr (omega arith)
    ] refl

module _ {C : Type 0} (size : C → ℕ) (es : Entries C) (component : Option (List ℕ)) (kind : ConfigKind) where
  -- an entry of the folder that counts is one of the directory to which that leads
  pub counts_here : (index : ℕ) (directory : List (List ℕ)) → OpensFolder es component index directory → (name : List ℕ) → IsConfigEntry size es component kind index name → CountsIn size es kind directory name
  counts_here index directory opens name config =
      subst (λ d. CountsIn size es kind d name) (one_opened es (config_folders component) index config.directory directory config.opens opens) config.entry

  -- before any visit nothing is kept
  pub keeps_none : (m : BTreeMap (List ℕ) (ConfigEntry C)) → m.entries ≡ [] → KeepsConfigs size es component kind (in_folders_before 0) m
  keeps_none m empty = record {
    kept = λ name entry at. absurd (false≢true (sym (ap (λ es. is_some (lookup_in (is_at (bytes_cmp name)) es)) empty) ∙ ap is_some at));
    all = λ index name made config. absurd (omega (arith, made));
  }

  -- what holds of a folder's visits holds of all visits up to the next folder
  at_index : (m : BTreeMap (List ℕ) (ConfigEntry C)) (index : ℕ) → KeepsConfigs size es component kind (in_folders_before index) m → ((name : List ℕ) → IsConfigEntry size es component kind index name → is_some (kept_for m name) ≡ true) → KeepsConfigs size es component kind (in_folders_before (index + 1)) m
  at_index m index keeps here = record { kept = keeps.kept; all = λ j name made config. by_case j name config (less_or_same j index made) }
    where
      by_case : (j : ℕ) (name : List ℕ) → IsConfigEntry size es component kind j name → (j < index) ⊎ (j ≡ index) → is_some (kept_for m name) ≡ true
      by_case j name config (inl less) = keeps.all j name less config
      by_case j name config (inr same) = here name (subst (λ i. IsConfigEntry size es component kind i name) same config)

  -- visits to a folder that is not there
  pub keeps_closed : (m : BTreeMap (List ℕ) (ConfigEntry C)) (index : ℕ) → ((directory : List (List ℕ)) → ¬ OpensFolder es component index directory) → KeepsConfigs size es component kind (in_folders_before index) m → KeepsConfigs size es component kind (in_folders_before (index + 1)) m
  keeps_closed m index closed keeps = at_index m index keeps (λ name config. absurd (closed config.directory config.opens))

  module _ (index : ℕ) (directory : List (List ℕ)) (opens : OpensFolder es component index directory) where
    -- at the start all names of the directory are left
    pub keeps_start : (m : BTreeMap (List ℕ) (ConfigEntry C)) (rest : Entries C) → rest ≡ where_key path_cmp (is_proper_prefix directory) es → KeepsConfigs size es component kind (in_folders_before index) m → KeepsConfigs size es component kind (in_names_passed index directory rest) m
    keeps_start m rest is keeps = record { kept = keeps.kept; all = all }
      where
        all : (j : ℕ) (name : List ℕ) → in_names_passed index directory rest j name → IsConfigEntry size es component kind j name → is_some (kept_for m name) ≡ true
        all j name (inl less) config = keeps.all j name less config
        all j name (inr here) config =
            let there : is_some (lookup es (directory ++ name ∷ [])) ≡ true = (counts_here index directory opens name (subst (λ i. IsConfigEntry size es component kind i name) here.0 config)).there in
            absurd (false≢true (sym (ap is_some here.1) ∙ ap (λ fs. is_some (lookup fs (directory ++ name ∷ []))) is
            ∙ ap is_some (lookup_where (is_proper_prefix directory) (directory ++ name ∷ []) es ∙ ap (λ b. cond b (lookup es (directory ++ name ∷ [])) None) (below_append directory name [])) ∙ there))

    -- at the end none is left
    pub keeps_end : (m : BTreeMap (List ℕ) (ConfigEntry C)) (rest : Entries C) → ((name : List ℕ) → lookup rest (directory ++ name ∷ []) ≡ None) → KeepsConfigs size es component kind (in_names_passed index directory rest) m → KeepsConfigs size es component kind (in_folders_before (index + 1)) m
    keeps_end m rest none keeps =
        at_index m index (record { kept = keeps.kept; all = λ j name less config. keeps.all j name (inl less) config })
        (λ name config. keeps.all index name (inr (refl, none name)) config)

    module _ (rest more : Entries C) (name : List ℕ) (next : Passes directory rest name more) (old new : BTreeMap (List ℕ) (ConfigEntry C)) (keeps : KeepsConfigs size es component kind (in_names_passed index directory rest) old) where
      -- an entry whose name has none is the first of its name, and what it says is kept for it
      says_first : (entry : ConfigEntry C) → EntryAt size es kind directory name (Some entry) → is_some (kept_for old name) ≡ false → SaysFirst size es component kind name entry
      says_first entry at none = record {
        index = index;
        first = record {
          config = record { directory = directory; opens = opens; entry = at.0 };
          first = λ earlier less config. false≢true (sym none ∙ keeps.all earlier name (inl less) config);
        };
        says = at.1;
      }

      kept_next : (entry : ConfigEntry C) → EntryAt size es kind directory name (Some entry) → (there : Bool) → is_some (kept_for old name) ≡ there → (q : List ℕ) (found : ConfigEntry C) → cond there (kept_for old q) (cond (is_at (bytes_cmp name) q) (Some entry) (kept_for old q)) ≡ Some found → SaysFirst size es component kind q found
      kept_next entry at true there q found is = keeps.kept q found is
      kept_next entry at false none q found is = by_name (is_at (bytes_cmp name) q) refl is
        where
          by_name : (b : Bool) → is_at (bytes_cmp name) q ≡ b → cond b (Some entry) (kept_for old q) ≡ Some found → SaysFirst size es component kind q found
          by_name true same is =
              let entry_is : entry ≡ found = ap (λ o. unwrap_or o found) is in
              let name_is : name ≡ q = same_name name q same in
              subst (SaysFirst size es component kind q) entry_is (subst (λ n. SaysFirst size es component kind n entry) name_is (says_first entry at none))
          by_name false other is = keeps.kept q found is

      pub keeps_next : (entry : Option (ConfigEntry C)) → EntryAt size es kind directory name entry → KeepsEntry old new name entry → KeepsConfigs size es component kind (in_names_passed index directory more) new
      keeps_next entry at too = record { kept = kept entry at too; all = λ j n made config. all j n made config }
        where
          kept : (entry : Option (ConfigEntry C)) → EntryAt size es kind directory name entry → KeepsEntry old new name entry → (q : List ℕ) (found : ConfigEntry C) → kept_for new q ≡ Some found → SaysFirst size es component kind q found
          kept None none same q found is = keeps.kept q found (sym (same q) ∙ is)
          kept (Some x) at adds q found is = kept_next x at (is_some (kept_for old name)) refl q found (sym (adds q) ∙ is)

          own : (entry : Option (ConfigEntry C)) → EntryAt size es kind directory name entry → KeepsEntry old new name entry → CountsIn size es kind directory name → is_some (kept_for new name) ≡ true
          own None none same counts = absurd (none counts)
          own (Some x) at adds counts = own_kept old new name x adds

          old_made : (j : ℕ) (n : List ℕ) → in_names_passed index directory rest j n → IsConfigEntry size es component kind j n → is_some (kept_for new n) ≡ true
          old_made j n made config = more_kept old new name entry too n (keeps.all j n made config)

          here : (n : List ℕ) → IsConfigEntry size es component kind index n → (lookup rest (directory ++ n ∷ []) ≡ None) ⊎ (n ≡ name) → is_some (kept_for new n) ≡ true
          here n config (inl gone) = old_made index n (inr (refl, gone)) config
          here n config (inr same) =
              subst (λ m. is_some (kept_for new m) ≡ true) (sym same)
              (own entry at too (subst (CountsIn size es kind directory) same (counts_here index directory opens n config)))

          all : (j : ℕ) (n : List ℕ) → in_names_passed index directory more j n → IsConfigEntry size es component kind j n → is_some (kept_for new n) ≡ true
          all j n (inl less) config = old_made j n (inl less) config
          all j n (inr at_) config = here n (subst (λ i. IsConfigEntry size es component kind i n) at_.0 config) (next.passed n at_.1)
