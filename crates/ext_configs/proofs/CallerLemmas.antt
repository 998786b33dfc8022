-- What the crates above want of configuration files and components.
use Rattle.std.proofs.Common.{◌≡◌, ℕ, true, cond, List, [], ◌∷◌, ◌++◌, Option, Some, ap, ◌∙◌}
use Rattle.std.specs.FinMap.{find, is_sorted}
use Rattle.std.specs.FinMap.Entries.{below_all}
use Rattle.std.specs.List.{AllByRecursion}
use Rattle.std.specs.Ordering.{is_eq, is_lt, ordering_reverse}
use Rattle.std.proofs.lemmas.Bool.{and_parts}
use Rattle.ext_attributes.specs.Attributes.{OfFile}
use Rattle.ext_lines.specs.ByteOrder.{bytes_cmp, bytes_total}
use Rattle.ext_text.proofs.ForCallers.{all_back, is_less, names_tied}
use Rattle.ext_text.specs.Name.{IsName}
use Rattle.ext_tree.specs.Tree.{Entries, IsTree, lookup}
use Rattle.ext_tree.specs.declared.entry.Entry.TheVariants.{File}
use Rattle.ext_transfer.specs.Component.{IsComponent, component_folder}
use Rattle.ext_configs.specs.Components.{IsComponentIn}
use Rattle.ext_configs.specs.Configs.{AreConfigs, IsConfig, files_by_name}
use Rattle.ext_configs.specs.declared.files.ConfigFile.{ConfigFile}
use Rattle.ext_configs.specs.declared.kind.ConfigKind.{ConfigKind}
use Rattle.ext_configs.proofs.FileLemmas.{config_content}

-- what is found among later entries is found where a lesser key stands before them
found_later : {X : Type 0} (k : List ℕ) (v : X) (es fs : List (List ℕ × X)) → below_all bytes_cmp k fs ≡ true → AllByRecursion (λ e. find bytes_cmp e.0 es ≡ Some e.1) fs → AllByRecursion (λ e. find bytes_cmp e.0 ((k, v) ∷ es) ≡ Some e.1) fs
found_later k v es [] below all = tt
found_later k v es (f ∷ fs) below all =
    let parts = and_parts (is_lt (bytes_cmp k f.0)) (below_all bytes_cmp k fs) below in (
      ap (λ r. cond (is_eq r) (Some v) (find bytes_cmp f.0 es)) (bytes_total.antisymm f.0 k ∙ ap ordering_reverse (is_less _ parts.0)) ∙ all.0,
      found_later k v es fs parts.1 all.1,
    )

-- each entry in order is found by its key
each_found : {X : Type 0} (es : List (List ℕ × X)) → is_sorted bytes_cmp es ≡ true → AllByRecursion (λ e. find bytes_cmp e.0 es ≡ Some e.1) es
each_found [] sorted = tt
each_found (e ∷ es) sorted =
    let parts = and_parts (below_all bytes_cmp e.0 es) (is_sorted bytes_cmp es) sorted in (
      ap (λ r. cond (is_eq r) (Some e.1) (find bytes_cmp e.0 es)) (names_tied e.0),
      found_later e.0 e.1 es es parts.0 (each_found es parts.1),
    )

module _ {C : Type 0} (size : C → ℕ) (es : Entries C) (component : Option (List ℕ)) (kind : ConfigKind) where
  each_in : (all files : List (ConfigFile C)) → AreConfigs size es component kind all → AllByRecursion (λ e. find bytes_cmp e.0 (files_by_name all) ≡ Some e.1) (files_by_name files) → AllByRecursion (λ file. IsConfig size es component kind file.name file.content.now) files
  each_in all [] are found = tt
  each_in all (file ∷ files) are found = (are.each file.name file.content.now found.0, each_in all files are found.1)

  -- each of the configuration files is one by its name and content
  pub each_config : (files : List (ConfigFile C)) → AreConfigs size es component kind files → AllByRecursion (λ file. IsConfig size es component kind file.name file.content.now) files
  each_config files are = each_in files files are (each_found (files_by_name files) are.sorted)

  -- the content of a configuration file is that of a file of the base
  pub config_in_base : (name : List ℕ) (content : C) → IsConfig size es component kind name content → (path : List (List ℕ)) × (attributes : OfFile) × (lookup es path ≡ Some (File attributes content))
  config_in_base name content config = (config.leads.0, config.leads.1, config.leads.3)

  -- a name that has one content as a configuration file has no other
  pub one_config : (name : List ℕ) (a b : C) → IsConfig size es component kind name a → IsConfig size es component kind name b → a ≡ b
  one_config name a b first other = config_content size es component kind name a b first other

-- in a tree each component that is listed is one by the rule of names
pub component_named : {C : Type 0} (es : Entries C) → IsTree es → (name : List ℕ) → IsComponentIn es name → IsComponent name
component_named es tree name is =
    let has = is.1.folder in
    let path = tree.paths (is.1.directory ++ component_folder name ∷ []) has.there in
    record { name_is = has.is_name; folder_is = (all_back IsName is.1.directory (component_folder name ∷ []) path.each).0 }
